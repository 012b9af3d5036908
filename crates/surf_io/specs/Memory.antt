-- Shelves and sinks in memory, whose calls fail as it was planned.
use Rattle.std.specs.Prelude.{ℕ, ◌+◌, ◌-◌, ◌^◌, min, List, refl}
use Rattle.std.specs.Coded.{Coded, code_by, coded×, coded_ℕ, coded_list}
use Rattle.std.specs.FinMap as map
use Rattle.surf_io.specs.Files.{Files}

-- a counter of 64 bits after one more; it stands still at its last value
abbrev pub count_up : ℕ → ℕ
count_up n = min (n + 1) (2 ^ 64 - 1)

-- the files, the numbers of the calls that fail, and the calls and the faults so far
pub record ShelfInMemory : Type 0 where
  pub files : Files
  pub failing : List ℕ
  pub calls : ℕ
  pub faults : ℕ

abbrev pub files_code : Coded Files
files_code = map.code (coded_list coded_ℕ) (coded_list coded_ℕ)

abbrev pub shelf_code : Coded ShelfInMemory
shelf_code =
    code_by (Files × (List ℕ × (ℕ × ℕ))) (coded× files_code (coded× (coded_list coded_ℕ) (coded× coded_ℕ coded_ℕ)))
    (λ s. (s.files, (s.failing, (s.calls, s.faults))))
    (λ p. record { files = p.0; failing = p.1.0; calls = p.1.1.0; faults = p.1.1.1 })
    (λ _. refl)

-- the bytes written and how many of them are settled, the numbers of the calls that fail, the calls and the faults so
-- far, and the greatest number of bytes that a call takes
pub record SinkInMemory : Type 0 where
  pub written : List ℕ
  pub settled : ℕ
  pub failing : List ℕ
  pub calls : ℕ
  pub faults : ℕ
  pub at_most : ℕ

abbrev pub sink_code : Coded SinkInMemory
sink_code =
    code_by (List ℕ × (ℕ × (List ℕ × (ℕ × (ℕ × ℕ)))))
    (coded× (coded_list coded_ℕ) (coded× coded_ℕ (coded× (coded_list coded_ℕ) (coded× coded_ℕ (coded× coded_ℕ coded_ℕ)))))
    (λ s. (s.written, (s.settled, (s.failing, (s.calls, (s.faults, s.at_most))))))
    (λ p. record {
      written = p.0;
      settled = p.1.0;
      failing = p.1.1.0;
      calls = p.1.1.1.0;
      faults = p.1.1.1.1.0;
      at_most = p.1.1.1.1.1;
    })
    (λ _. refl)
