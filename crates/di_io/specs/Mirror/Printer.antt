-- Mirror of a printer's fields: what the sink has of the text, and what is held for it.
use Rattle.std.specs.Prelude.{◌≡◌, ℕ, ◌≤◌, Bool, true, false, List, ◌++◌, Option}
use Rattle.di_io.specs.Faults.{Rose}
use Rattle.di_io.specs.Written.{Gains, GainsFront}
use Rattle.di_io.specs.Printing.{Printing}

-- a front of the text was put, and the rest is held
pub record Held (old now : Option (List ℕ)) (held said : List ℕ) : Type 0 where
  pub put : List ℕ
  pub gained : Gains old now put
  pub joins : put ++ held ≡ said

-- the sink tells `now` and counts `count` faults, these bytes are held, and a put failed or none did
pub record Has (p : Printing) (now : Option (List ℕ)) (count : ℕ) (held : List ℕ) (failed : Bool) : Type 0 where
  pub later : p.faults ≤ count
  pub kept : failed ≡ false → Held p.written now held p.said
  pub rose : failed ≡ true → Rose p.faults count
  pub front : failed ≡ true → GainsFront p.written now p.said
