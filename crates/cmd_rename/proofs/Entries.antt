-- Entries of a table, as they show.
use Rattle.std.proofs.Common.{◌≡◌, ◌≢◌, ℕ, zero, suc, ◌<◌, ◌≤◌, Bool, true, false, nat_eq, List, [], ◌∷◌, ◌++◌, map, length, Option, Some, None, refl, sym, ap, arith, if◌then◌else◌, eqb-true, eq-eqb, get_or, set}
use Rattle.std.specs.List.{AllByRecursion}
use Rattle.cmd_rename.specs.declared.table.Entry.{Entry}
use Rattle.cmd_rename.specs.Table.{entry}
use Rattle.cmd_rename.specs.Mirror.Rounds.{shown, AreOld}

-- an entry of an earlier round does not show
shown_old : (round old : ℕ) (e : Entry) → e.round ≤ old → old < round → shown round e ≡ None
shown_old round old e h l = by (nat_eq e.round round) refl
  where
    by : (b : Bool) → nat_eq e.round round ≡ b → (if b then Some e.number else None) ≡ None
    by true q = absurd (let same : e.round ≡ round = eqb-true e.round round q in omega (arith, h, l, same))
    by false q = refl

pub none_shown : (round old : ℕ) (es : List Entry) → AllByRecursion (λ e. e.round ≤ old) es → old < round → (a : ℕ) → entry (map (shown round) es) a ≡ None
none_shown round old [] h l a = refl
none_shown round old (e ∷ es) h l zero = shown_old round old e h.0 l
none_shown round old (e ∷ es) h l (suc a) = none_shown round old es h.1 l a

pub entry_pushed : (t : List (Option ℕ)) (a : ℕ) → entry (t ++ None ∷ []) a ≡ entry t a
entry_pushed [] zero = refl
entry_pushed [] (suc a) = refl
entry_pushed (e ∷ t) zero = refl
entry_pushed (e ∷ t) (suc a) = entry_pushed t a

pub shown_pushed : (round : ℕ) (es : List Entry) (e : Entry) (a : ℕ) → shown round e ≡ None → entry (map (shown round) (es ++ e ∷ [])) a ≡ entry (map (shown round) es) a
shown_pushed round [] e zero h = h
shown_pushed round [] e (suc a) h = refl
shown_pushed round (x ∷ es) e zero h = refl
shown_pushed round (x ∷ es) e (suc a) h = shown_pushed round es e a h

pub old_pushed : (round : ℕ) (es : List Entry) (e : Entry) → e.round ≤ round → AreOld round es → AreOld round (es ++ e ∷ [])
old_pushed round [] e h k = (h, tt)
old_pushed round (x ∷ es) e h k = (k.0, old_pushed round es e h k.1)

pub old_set : (round : ℕ) (es : List Entry) (i : ℕ) (e : Entry) → e.round ≤ round → AreOld round es → AreOld round (set es i e)
old_set round [] i e h k = tt
old_set round (x ∷ es) zero e h k = (h, k.1)
old_set round (x ∷ es) (suc i) e h k = (k.0, old_set round es i e h k.1)

pub got : (round : ℕ) (es : List Entry) (a : ℕ) (e : Entry) → a < length es → e ≡ get_or es a e → entry (map (shown round) es) a ≡ shown round e
got round [] a e h q = absurd (omega arith)
got round (x ∷ es) zero e h q = ap (shown round) (sym q)
got round (x ∷ es) (suc a) e h q = got round es a e (omega arith) q

pub got_none : (round : ℕ) (es : List Entry) (a : ℕ) → length es ≤ a → entry (map (shown round) es) a ≡ None
got_none round [] a h = refl
got_none round (x ∷ es) zero h = absurd (omega arith)
got_none round (x ∷ es) (suc a) h = got_none round es a (omega arith)

pub shown_here : (round : ℕ) (e : Entry) → e.round ≡ round → shown round e ≡ Some e.number
shown_here round e h = ap (λ b. if b then Some e.number else None) (eq-eqb e.round round h)

pub shown_apart : (round : ℕ) (e : Entry) → (e.round ≡ round → ⊥) → shown round e ≡ None
shown_apart round e h = by (nat_eq e.round round) refl
  where
    by : (b : Bool) → nat_eq e.round round ≡ b → (if b then Some e.number else None) ≡ None
    by true q = absurd (h (eqb-true e.round round q))
    by false q = refl

pub set_here : (round : ℕ) (es : List Entry) (i : ℕ) (e : Entry) → i < length es → entry (map (shown round) (set es i e)) i ≡ shown round e
set_here round [] i e h = absurd (omega arith)
set_here round (x ∷ es) zero e h = refl
set_here round (x ∷ es) (suc i) e h = set_here round es i e (omega arith)

pub set_other : (round : ℕ) (es : List Entry) (i : ℕ) (e : Entry) (a : ℕ) → a ≢ i → entry (map (shown round) (set es i e)) a ≡ entry (map (shown round) es) a
set_other round [] i e a h = refl
set_other round (x ∷ es) zero e zero h = absurd (h refl)
set_other round (x ∷ es) zero e (suc a) h = refl
set_other round (x ∷ es) (suc i) e zero h = refl
set_other round (x ∷ es) (suc i) e (suc a) h = set_other round es i e a (λ q. h (ap suc q))
