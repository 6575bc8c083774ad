-- What an answer of the reader says of the bytes.
use Rattle.std.proofs.Common.{◌≡◌, ℕ, List, Option, Some, None, Ok, Err, refl, sym, ◌∙◌, subst}
use Rattle.std.specs.Option.{IfSome}
use Rattle.cmd_tree.specs.declared.tree.Dir.{Dir}
use Rattle.trace_laws.specs.declared.list.TraceRefusal.{TraceRefusal}
use Rattle.trace_laws.specs.declared.list.TraceRefusal.TheVariants as told
use Rattle.trace_laws.specs.ListText.{IsListText, IsFaultyLine, line_told}
use Rattle.trace_laws.specs.Mirror.Reading.{Listing, listing, dirs_of, Tells}
use Rattle.trace_laws.proofs.Naming.{ok_err}
use Rattle.trace_laws.proofs.WholeListing.{text_read, read_text, refused_line, one_line, one_list, no_fault}

module _ (bytes : List ℕ) where
  -- the fields of a list that was read
  abbrev pub WasRead : List (List ℕ) → List Dir → List (List ℕ) → Type 0
  WasRead names dirs traces = (r : Listing) × (listing bytes ≡ Ok r) × (names ≡ r.names) × (dirs ≡ dirs_of r) × (traces ≡ r.traces)

  pub text_of_read : (names : List (List ℕ)) (dirs : List Dir) (traces : List (List ℕ)) → WasRead names dirs traces → IsListText bytes names dirs traces
  text_of_read names dirs traces (r, e, n, d, t) = subst (λ ns. IsListText bytes ns dirs traces) (sym n) (subst (λ ds. IsListText bytes r.names ds traces) (sym d) (subst (IsListText bytes r.names (dirs_of r)) (sym t) (read_text bytes r e)))

  pub read_alone : (names ns : List (List ℕ)) (dirs ds : List Dir) (traces ts : List (List ℕ)) → IsListText bytes ns ds ts → WasRead names dirs traces → (names ≡ ns) × (dirs ≡ ds) × (traces ≡ ts)
  read_alone names ns dirs ds traces ts w h = one_list bytes names ns dirs ds traces ts (text_of_read names dirs traces h) w

  faulty_by : (o : Option ℕ) → IfSome o (λ n. listing bytes ≡ Err n) → IfSome o (IsFaultyLine bytes)
  faulty_by None h = tt
  faulty_by (Some n) h = refused_line bytes n h

  pub told_faulty : (e : TraceRefusal) → Tells (listing bytes) e → IfSome (line_told e) (IsFaultyLine bytes)
  told_faulty e h = faulty_by (line_told e) h

  pub only_memory : (names : List (List ℕ)) (dirs : List Dir) (traces : List (List ℕ)) → IsListText bytes names dirs traces → (e : TraceRefusal) → Tells (listing bytes) e → e ≡ told.NoMemory
  only_memory names dirs traces w (told.BadLine n) h = ok_err (sym (text_read bytes names dirs traces w) ∙ h)
  only_memory names dirs traces w told.NoMemory h = refl

  same_by : (n : ℕ) → IsFaultyLine bytes n → (o : Option ℕ) → IfSome o (λ m. listing bytes ≡ Err m) → IfSome o (λ m. m ≡ n)
  same_by n f None h = tt
  same_by n f (Some m) h = one_line bytes m n (refused_line bytes m h) f

  pub same_line : (n : ℕ) → IsFaultyLine bytes n → (e : TraceRefusal) → Tells (listing bytes) e → IfSome (line_told e) (λ m. m ≡ n)
  same_line n f e h = same_by n f (line_told e) h

  pub not_read : (n : ℕ) → IsFaultyLine bytes n → (names : List (List ℕ)) (dirs : List Dir) (traces : List (List ℕ)) → WasRead names dirs traces → ⊥
  not_read n f names dirs traces h = no_fault bytes names dirs traces n (text_of_read names dirs traces h) f
