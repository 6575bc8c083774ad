-- One token of the reader's loop.
use Rattle.std.proofs.Common.{◌≡◌, ℕ, ◌+◌, ◌≤◌, Bool, true, false, List, [], ◌∷◌, ◌++◌, length, drop, Option, Some, None, Result, Err, refl, sym, ◌∙◌, ap, subst, arith, length-append}
use Rattle.std.specs.Prelude.{◌<◌, nat_lt, slice_range, if◌then◌else◌}
use Rattle.std.specs.Option.{IfSome, option_map}
use Rattle.std.specs.Str.{bytes_eq}
use Rattle.std.specs.List.{list_any}
use Rattle.cmd_text.proofs.ReaderSteps.{put_depth}
use Rattle.cmd_text.proofs.Refusals.{end_refused}
use Rattle.cmd_text.specs.declared.file.Refusal.{Refusal}
use Rattle.cmd_text.specs.declared.token.Token as code
use Rattle.cmd_text.specs.declared.token.Token.TheVariants as variant
use Rattle.cmd_text.specs.declared.scan.Found.{Found}
use Rattle.cmd_text.specs.Token.{Token}
use Rattle.cmd_text.specs.Names.{number_in}
use Rattle.cmd_text.specs.Fault.{Fault, Unexpected, TooDeep}
use Rattle.cmd_text.specs.Scan.{Scanned, Between, scan}
use Rattle.cmd_text.specs.Mirror.ScanView.{token_of, after, with_found, with_refusal, IsPast}
use Rattle.cmd_text.specs.Source.{fault_of}
use Rattle.cmd_text.specs.contracts.token.Token.{the_type}
use denote.Enum.Bare.{sameb}
use Rattle.cmd_text.specs.declared.file.Sentence.{Sentence}
use Rattle.cmd_text.specs.declared.spot.Spot as spot_type
use Rattle.cmd_text.specs.declared.spot.Spot.TheVariants as spot
use Rattle.cmd_text.specs.Mirror.Machine.{State, heard}
use Rattle.cmd_text.specs.Mirror.Machine as machine
use Rattle.cmd_text.specs.Mirror.Reader.{Partly, Spot, InProcess, IsWithin, put, step, open_brackets_at}
use Rattle.cmd_text.specs.Mirror.Reading.{Standing, with_heard, hear, go, judge, verdict}
use Rattle.cmd_text.specs.Mirror.ReaderView.{spot_of, answer_from, answer_behind}

abbrev at : List (List ℕ) → Spot → Standing
at ns s = record { names = ns; spot = s }

-- the answer by what is scanned
abbrev by_scan : Standing → Scanned → Result Standing Fault
by_scan st w = verdict st w.toks w.fault

fault_by : (st : Standing) (o : Option Fault) → IfSome o (λ f. by_scan st (record { toks = []; fault = o }) ≡ Err f)
fault_by st None = tt
fault_by st (Some f) = refl

pub scan_fault : (ns : List (List ℕ)) (s : Spot) (from : ℕ) (bs : List ℕ) (e : Refusal) → scan Between from (drop from bs) ≡ with_refusal e → IfSome (fault_of e) (λ f. answer_from ns s from bs ≡ Err f)
scan_fault ns s from bs e h = by (fault_of e) (ap (λ w. by_scan (at ns s) w) h) (fault_by (at ns s) (fault_of e))
  where
    by : (o : Option Fault) {x y : Result Standing Fault} → x ≡ y → IfSome o (λ f. y ≡ Err f) → IfSome o (λ f. x ≡ Err f)
    by None g k = tt
    by (Some f) g k = g ∙ k

token_gone : (ns ms : List (List ℕ)) (s : Spot) (x : Token) (p : ℕ) (o : Option Spot) → ms ≡ hear ns s x → step (number_in ms) s x (Some p) ≡ o → go (at ns s) (record { tok = x; at = p }) ≡ option_map (λ t. at ms t) o
token_gone ns ms s x p o e h = ap (λ v. option_map (λ t. at v t) (step (number_in v) s x (Some p))) (sym e) ∙ ap (λ v. option_map (λ t. at ms t) v) h

found_answer : (ns : List (List ℕ)) (s : Spot) (from : ℕ) (bs : List ℕ) (f : Found) → scan Between from (drop from bs) ≡ with_found f bs → answer_from ns s from bs ≡ judge (record { tok = token_of f.token (slice_range bs f.at f.next); at = f.at }) (go (at ns s) (record { tok = token_of f.token (slice_range bs f.at f.next); at = f.at })) (λ t. by_scan t (after f.token f.next bs))
found_answer ns s from bs f h = ap (λ w. by_scan (at ns s) w) h

pub refused_here : (ns ms : List (List ℕ)) (s : Spot) (from : ℕ) (bs : List ℕ) (f : Found) → scan Between from (drop from bs) ≡ with_found f bs → ms ≡ hear ns s (token_of f.token (slice_range bs f.at f.next)) → step (number_in ms) s (token_of f.token (slice_range bs f.at f.next)) (Some f.at) ≡ None → answer_from ns s from bs ≡ Err (Unexpected f.at)
refused_here ns ms s from bs f h e g = found_answer ns s from bs f h
    ∙ ap (λ o. judge (record { tok = token_of f.token (slice_range bs f.at f.next); at = f.at }) o (λ t. by_scan t (after f.token f.next bs))) (token_gone ns ms s (token_of f.token (slice_range bs f.at f.next)) f.at None e g)

taken_here : (ns ms : List (List ℕ)) (s t : Spot) (from : ℕ) (bs : List ℕ) (f : Found) → scan Between from (drop from bs) ≡ with_found f bs → ms ≡ hear ns s (token_of f.token (slice_range bs f.at f.next)) → step (number_in ms) s (token_of f.token (slice_range bs f.at f.next)) (Some f.at) ≡ Some t → answer_from ns s from bs ≡ (if nat_lt 64 (open_brackets_at t) then Err (TooDeep f.at) else by_scan (at ms t) (after f.token f.next bs))
taken_here ns ms s t from bs f h e g = found_answer ns s from bs f h
    ∙ ap (λ o. judge (record { tok = token_of f.token (slice_range bs f.at f.next); at = f.at }) o (λ u. by_scan u (after f.token f.next bs))) (token_gone ns ms s (token_of f.token (slice_range bs f.at f.next)) f.at (Some t) e g)

pub deep_here : (ns ms : List (List ℕ)) (s t : Spot) (from : ℕ) (bs : List ℕ) (f : Found) → scan Between from (drop from bs) ≡ with_found f bs → ms ≡ hear ns s (token_of f.token (slice_range bs f.at f.next)) → step (number_in ms) s (token_of f.token (slice_range bs f.at f.next)) (Some f.at) ≡ Some t → nat_lt 64 (open_brackets_at t) ≡ true → answer_from ns s from bs ≡ Err (TooDeep f.at)
deep_here ns ms s t from bs f h e g d = taken_here ns ms s t from bs f h e g ∙ ap (λ b. if b then Err (TooDeep f.at) else by_scan (at ms t) (after f.token f.next bs)) d

abbrev pub is_end : code.Token → Bool
is_end variant.End = true
is_end t = false

behind : (t : code.Token) (ms : List (List ℕ)) (s : Spot) (next : ℕ) (bs : List ℕ) → by_scan (at ms s) (after t next bs) ≡ answer_behind (is_end t) ms s next bs
behind variant.End ms s next bs = refl
behind t ms s next bs = refl

pub passed_here : (ns ms : List (List ℕ)) (s t : Spot) (from : ℕ) (bs : List ℕ) (f : Found) → scan Between from (drop from bs) ≡ with_found f bs → ms ≡ hear ns s (token_of f.token (slice_range bs f.at f.next)) → step (number_in ms) s (token_of f.token (slice_range bs f.at f.next)) (Some f.at) ≡ Some t → nat_lt 64 (open_brackets_at t) ≡ false → answer_from ns s from bs ≡ answer_behind (is_end f.token) ms t f.next bs
passed_here ns ms s t from bs f h e g d = taken_here ns ms s t from bs f h e g ∙ ap (λ b. if b then Err (TooDeep f.at) else by_scan (at ms t) (after f.token f.next bs)) d ∙ behind f.token ms t f.next bs

-- ---- a token that is not the end takes bytes
past_of : (t : code.Token) (a n from : ℕ) → is_end t ≡ false → IsPast (record { token = t; at = a; next = n }) from → from < n
past_of variant.End a n from e p = absurd (cc)
past_of t a n from e p = p

pub past_token : (f : Found) (from : ℕ) → is_end f.token ≡ false → IsPast f from → from < f.next
past_token f from e p = past_of f.token f.at f.next from e p

pub same_end : (t : code.Token) → sameb the_type t variant.End ≡ is_end t
same_end variant.End = refl
same_end t = refl

not_end : (number : List ℕ → ℕ) (s u : State) (t : code.Token) (w : List ℕ) → machine.step number s (token_of t w) ≡ Some u → is_end t ≡ false
not_end number s u variant.End w e = absurd (none_some (sym (end_refused number s) ∙ e))
  where
    none_some : None ≡ Some u → ⊥
    none_some h = cc
not_end number s u t w e = refl

-- ---- a token of a process
module _ (ns ms : List (List ℕ)) (q : Partly) (s : State) (from : ℕ) (bs : List ℕ) (f : Found) (x : Token)
    (scanned : scan Between from (drop from bs) ≡ with_found f bs) (same : x ≡ token_of f.token (slice_range bs f.at f.next)) (heard_so : ms ≡ with_heard ns (heard s x)) where
  heard_here : ms ≡ hear ns (InProcess q s) (token_of f.token (slice_range bs f.at f.next))
  heard_here = subst (λ y. ms ≡ with_heard ns (heard s y)) same heard_so

  stepped_here : (o : Option State) → machine.step (number_in ms) s x ≡ o → step (number_in ms) (InProcess q s) (token_of f.token (slice_range bs f.at f.next)) (Some f.at) ≡ option_map (put q) o
  stepped_here o e = subst (λ y. option_map (put q) (machine.step (number_in ms) s y) ≡ option_map (put q) o) same (ap (λ v. option_map (put q) v) e)

  pub token_refused : machine.step (number_in ms) s x ≡ None → (p : ℕ) → p ≡ f.at → answer_from ns (InProcess q s) from bs ≡ Err (Unexpected p)
  token_refused e p a = refused_here ns ms (InProcess q s) from bs f scanned heard_here (stepped_here None e) ∙ ap (λ v. Err (Unexpected v)) (sym a)

  pub token_deep : (t : State) → machine.step (number_in ms) s x ≡ Some t → nat_lt 64 (machine.open_brackets t) ≡ true → (p : ℕ) → p ≡ f.at → answer_from ns (InProcess q s) from bs ≡ Err (TooDeep p)
  token_deep t e d p a = deep_here ns ms (InProcess q s) (put q t) from bs f scanned heard_here (stepped_here (Some t) e) (ap (λ n. nat_lt 64 n) (put_depth (number_in ms) q t) ∙ d) ∙ ap (λ v. Err (TooDeep v)) (sym a)

  pub token_passed : (t : State) → machine.step (number_in ms) s x ≡ Some t → nat_lt 64 (machine.open_brackets t) ≡ false → answer_from ns (InProcess q s) from bs ≡ answer_from ms (put q t) f.next bs
  token_passed t e d = passed_here ns ms (InProcess q s) (put q t) from bs f scanned heard_here (stepped_here (Some t) e) (ap (λ n. nat_lt 64 n) (put_depth (number_in ms) q t) ∙ d)
      ∙ ap (λ b. answer_behind b ms (put q t) f.next bs) (not_end (number_in ms) s t f.token (slice_range bs f.at f.next) (subst (λ y. machine.step (number_in ms) s y ≡ Some t) same e))

-- the token takes bytes
pub token_past : (number : List ℕ → ℕ) (s u : State) (f : Found) (bs : List ℕ) (x : Token) (from : ℕ) → x ≡ token_of f.token (slice_range bs f.at f.next) → machine.step number s x ≡ Some u → IsPast f from → from < f.next
token_past number s u f bs x from same e p = past_token f from (not_end number s u f.token (slice_range bs f.at f.next) (subst (λ y. machine.step number s y ≡ Some u) same e)) p

-- ---- a token outside of processes
hear_outside : (ns : List (List ℕ)) (s : Spot) (x : Token) → (IsWithin s → ⊥) → hear ns s x ≡ ns
hear_outside ns (InProcess q s) x h = absurd (h tt)
hear_outside ns s x h = refl

none_open : (ss : List Sentence) (t : spot_type.Spot) → open_brackets_at (spot_of ss t) ≡ 0
none_open ss (spot.Process q) = refl
none_open ss t = refl

module _ (s : Spot) (from : ℕ) (bs : List ℕ) (f : Found) (x : Token)
    (scanned : scan Between from (drop from bs) ≡ with_found f bs) (same : x ≡ token_of f.token (slice_range bs f.at f.next)) (outside : IsWithin s → ⊥) where
  stepped_so : (number : List ℕ → ℕ) (p : ℕ) → p ≡ f.at → (o : Option Spot) → step number s x (Some p) ≡ o → step number s (token_of f.token (slice_range bs f.at f.next)) (Some f.at) ≡ o
  stepped_so number p a o e = subst (λ y. step number s y (Some f.at) ≡ o) same (subst (λ v. step number s x (Some v) ≡ o) a e)

  pub spot_refused : (p : ℕ) → p ≡ f.at → ((number : List ℕ → ℕ) → step number s x (Some p) ≡ None) → (ns : List (List ℕ)) → answer_from ns s from bs ≡ Err (Unexpected p)
  spot_refused p a e ns = refused_here ns ns s from bs f scanned (sym (hear_outside ns s (token_of f.token (slice_range bs f.at f.next)) outside)) (stepped_so (number_in ns) p a None (e (number_in ns))) ∙ ap (λ v. Err (Unexpected v)) (sym a)

  pub spot_passed : (p : ℕ) → p ≡ f.at → (ss : List Sentence) (t : spot_type.Spot) → ((number : List ℕ → ℕ) → step number s x (Some p) ≡ Some (spot_of ss t)) → (ns : List (List ℕ)) → answer_from ns s from bs ≡ answer_behind (is_end f.token) ns (spot_of ss t) f.next bs
  spot_passed p a ss t e ns = passed_here ns ns s (spot_of ss t) from bs f scanned (sym (hear_outside ns s (token_of f.token (slice_range bs f.at f.next)) outside)) (stepped_so (number_in ns) p a (Some (spot_of ss t)) (e (number_in ns))) (ap (λ n. nat_lt 64 n) (none_open ss t))

-- ---- at most one name more
more_by : (ns : List (List ℕ)) (n : List ℕ) (b : Bool) → length (if b then ns else ns ++ n ∷ []) ≤ length ns + 1
more_by ns n true = omega arith
more_by ns n false = omega (arith, length-append ns (n ∷ []))

pub heard_more : (ns : List (List ℕ)) (o : Option (List ℕ)) → length (with_heard ns o) ≤ length ns + 1
heard_more ns None = omega arith
heard_more ns (Some n) = more_by ns n (list_any (bytes_eq n) ns)
