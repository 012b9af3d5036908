-- The definitions at work. Each line is proved by computing.
use Rattle.std.specs.Prelude.{◌≡◌, [], ◌∷◌, length, map, refl}
use Rattle.surf_gen.specs.Chains.{point, vertices, number, cells, face}
use Rattle.surf_gen.specs.TrialWalks.{first_walk, second_walk}
use Rattle.surf_gen.specs.declared.walks.TrialPair.TheVariants.{Commuting, Cell, Loops}

-- One torus of five rows and columns: 25 vertices and 25 cells. The last cell closes both ways.
one_torus : length (vertices 1 5) ≡ 25
one_torus = refl

one_torus_cells : length (cells 1 5) ≡ 25
one_torus_cells = refl

last_cell : face 5 (point 0 4 4) ≡ 24 ∷ 20 ∷ 0 ∷ 4 ∷ []
last_cell = refl

-- Two tori: four vertices are common, and two cells are cut out.
two_tori : length (vertices 2 5) ≡ 46
two_tori = refl

two_tori_cells : length (cells 2 5) ≡ 48
two_tori_cells = refl

-- Round the hole of the first torus, and round that of the second one, there are the same four vertices.
rim_of_the_first : map (number 5) (point 0 2 2 ∷ point 0 2 3 ∷ point 0 3 3 ∷ point 0 3 2 ∷ []) ≡ 12 ∷ 13 ∷ 18 ∷ 17 ∷ []
rim_of_the_first = refl

rim_of_the_second : map (number 5) (point 1 0 0 ∷ point 1 1 0 ∷ point 1 1 1 ∷ point 1 0 1 ∷ []) ≡ 12 ∷ 13 ∷ 18 ∷ 17 ∷ []
rim_of_the_second = refl

-- The first cells that are left of the second torus.
beside_the_hole :
    map (face 5) (point 1 0 1 ∷ point 1 1 0 ∷ point 1 1 1 ∷ [])
    ≡ (17 ∷ 25 ∷ 28 ∷ 18 ∷ []) ∷ (13 ∷ 18 ∷ 32 ∷ 31 ∷ []) ∷ (18 ∷ 28 ∷ 33 ∷ 32 ∷ []) ∷ []
beside_the_hole = refl

row_then_column : first_walk 5 Commuting ≡ 24 ∷ 20 ∷ 21 ∷ 22 ∷ 23 ∷ 24 ∷ 4 ∷ 9 ∷ 14 ∷ 19 ∷ 24 ∷ []
row_then_column = refl

round_a_cell : first_walk 5 Cell ≡ 24 ∷ 20 ∷ 0 ∷ 4 ∷ 24 ∷ []
round_a_cell = refl

nowhere : second_walk 5 Cell ≡ 24 ∷ []
nowhere = refl

column_alone : second_walk 5 Loops ≡ 24 ∷ 4 ∷ 9 ∷ 14 ∷ 19 ∷ 24 ∷ []
column_alone = refl
