-- Names that crates above have from here.
pub use Rattle.text_scan.proofs.EachLemmas.{before_ok, before_ok-more}
