-- Lemmas behind the laws of the forms.
pub mod StepsInThePlane
pub mod FlatLaws
pub mod PointLaws
