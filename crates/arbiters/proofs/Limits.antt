-- An arbiter keeps the limits of commands.
use Rattle.std.proofs.Common.{◌≡◌, ℕ, zero, suc, ◌+◌, ◌*◌, ◌-◌, ◌<◌, ◌≤◌, List, [], ◌∷◌, ◌++◌, length, map, refl, sym, ap, ◌∙◌, subst, arith, append_assoc, length-append}
use Rattle.std.specs.Prelude.{IsTrue, is_some, max}
use Rattle.std.specs.List.{AllByRecursion, range_with_len}
use Rattle.std.proofs.lemmas.List.FromFn.{length-map-range_with_len}
use Rattle.cmd_tree.specs.declared.limits.TheConstants.{MAX_OPEN_BRACKETS}
use Rattle.cmd_tree.specs.declared.tree.Mark.{Mark}
use Rattle.cmd_tree.specs.declared.tree.Proc.{Proc}
use Rattle.cmd_tree.specs.Tree.{Or, places_among, marks_among}
use Rattle.cmd_tree.specs.View.{seqs_of}
use Rattle.cmd_tree.specs.Marks.{input, output}
use Rattle.cmd_tree.specs.Limits.{IsProc, IsCommand, AreSeqs, IsNumbered, count_of, brackets_among, brackets_of_proc, marks_of_proc, marks_of_all, places_of_proc, places_of_all}
use Rattle.process_laws.specs.GrantForms.{Giving, loans}
use Rattle.arbiters.specs.Arbiter.{asks, granted, returned, ended, client, giving, clients, grant, arbiter, arbiter_names}
use Rattle.arbiters.specs.Mirror.Loans.{loan}
use Rattle.arbiters.proofs.Ranges.{all_ranged, all_both}
use Rattle.arbiters.proofs.SymbolNames.{all_named, all_distinct, many_names}

-- ---- the alternatives of the grant

pub loans_are : (xs : List ℕ) → seqs_of (map loan xs) ≡ loans (map giving xs)
loans_are [] = refl
loans_are (x ∷ xs) = ap (Or (loan x)) (loans_are xs)

pub many_loans : (gs : List Giving) → count_of (loans gs) ≡ length gs
many_loans [] = refl
many_loans (g ∷ gs) = omega (arith, many_loans gs)

whole_loans : (gs : List Giving) → AreSeqs (loans gs)
whole_loans [] = tt
whole_loans (g ∷ gs) =
    let one : 0 < 1 = omega arith in
    ((one, (one, tt)), whole_loans gs)

no_brackets : (gs : List Giving) → brackets_among (loans gs) ≡ 0
no_brackets [] = refl
no_brackets (g ∷ gs) = ap (max 0) (no_brackets gs)

loan_places : (gs : List Giving) → places_among (loans gs) ≡ 2 * length gs
loan_places [] = refl
loan_places (g ∷ gs) = omega (arith, loan_places gs)

pub many_givings : (n : ℕ) → length (map giving (clients n)) ≡ n
many_givings n = length-map-range_with_len giving 1 n

-- ---- numbers of processes and places

pub many_processes : (n : ℕ) → length (arbiter n) ≡ n + 1
many_processes n =
    let long : length (map client (clients n) ++ grant n ∷ []) ≡ length (map client (clients n)) + 1 = length-append (map client (clients n)) (grant n ∷ []) in
    long ∙ ap (λ k. k + 1) (length-map-range_with_len client 1 n)

places_of_both : (ps qs : List Proc) → places_of_all (ps ++ qs) ≡ places_of_all ps + places_of_all qs
places_of_both [] qs = omega arith
places_of_both (p ∷ ps) qs = omega (arith, places_of_both ps qs)

client_places : (j k : ℕ) → places_of_all (map client (range_with_len j k)) ≡ 4 * k
client_places j zero = refl
client_places j (suc k) = omega (arith, client_places (j + 1) k)

grant_places : (n : ℕ) → places_of_proc (grant n) ≡ 2 * n
grant_places n =
    let loaned = loan_places (map giving (clients n)) in
    omega (arith, loaned, many_givings n)

pub many_places : (n : ℕ) → places_of_all (arbiter n) ≡ 6 * n
many_places n = omega (arith, places_of_both (map client (clients n)) (grant n ∷ []), client_places 1 n, grant_places n)

-- ---- the symbols are numbered by first occurrence

pub marks_of_both : (ps qs : List Proc) → marks_of_all (ps ++ qs) ≡ marks_of_all ps ++ marks_of_all qs
marks_of_both [] qs = refl
marks_of_both (p ∷ ps) qs = ap (λ (ms : List Mark). marks_of_proc p ++ ms) (marks_of_both ps qs) ∙ sym (append_assoc (marks_of_proc p) (marks_of_all ps) (marks_of_all qs))

new_symbol : (k l : ℕ) (m : Mark) (ms : List Mark) (n : ℕ) → m.sym.0 ≡ k → l ≡ k + 1 → IsNumbered l ms n → IsNumbered k (m ∷ ms) n
new_symbol k l m ms n e f h = (omega (arith, e), subst (λ x. IsNumbered x ms n) (omega (arith, e, f)) h)

old_symbol : (k : ℕ) (m : Mark) (ms : List Mark) (n : ℕ) → m.sym.0 < k → IsNumbered k ms n → IsNumbered k (m ∷ ms) n
old_symbol k m ms n l h = (omega (arith, l), subst (λ x. IsNumbered x ms n) (omega (arith, l)) h)

clients_numbered : (j k : ℕ) (ms : List Mark) (n : ℕ) → 0 < j → IsNumbered (4 * (j + k) - 4) ms n → IsNumbered (asks j) (marks_of_all (map client (range_with_len j k)) ++ ms) n
clients_numbered j zero ms n some h = subst (λ x. IsNumbered x ms n) (omega arith) h
clients_numbered j (suc k) ms n some h =
    let rest : List Mark = marks_of_all (map client (range_with_len (j + 1) k)) ++ ms in
    let later : IsNumbered (asks (j + 1)) rest n = clients_numbered (j + 1) k ms n (omega arith) (subst (λ x. IsNumbered x ms n) (omega arith) h) in
    let last = new_symbol (ended j) (asks (j + 1)) (output (ended j)) rest n refl (omega arith) later in
    let third = new_symbol (returned j) (ended j) (input (returned j)) (output (ended j) ∷ rest) n refl (omega arith) last in
    let second = new_symbol (granted j) (returned j) (output (granted j)) (input (returned j) ∷ output (ended j) ∷ rest) n refl (omega arith) third in
    new_symbol (asks j) (granted j) (input (asks j)) (output (granted j) ∷ input (returned j) ∷ output (ended j) ∷ rest) n refl (omega arith) second

grant_numbered : (j k b : ℕ) → 0 < j → 4 * (j + k) - 4 ≤ b → IsNumbered b (marks_among (loans (map giving (range_with_len j k))) ++ []) b
grant_numbered j zero b some h = refl
grant_numbered j (suc k) b some h =
    let rest : List Mark = marks_among (loans (map giving (range_with_len (j + 1) k))) ++ [] in
    let later : IsNumbered b rest b = grant_numbered (j + 1) k b (omega arith) (omega arith) in
    old_symbol b (output (granted j)) (input (returned j) ∷ rest) b (omega arith) (old_symbol b (input (returned j)) rest b (omega arith) later)

append_none : (ms : List Mark) → ms ++ [] ≡ ms
append_none [] = refl
append_none (m ∷ ms) = ap (λ (xs : List Mark). m ∷ xs) (append_none ms)

numbered : (n : ℕ) → IsNumbered 0 (marks_of_all (arbiter n)) (length (arbiter_names n))
numbered n =
    let b = 4 * (1 + n) - 4 in
    let own : marks_of_all (grant n ∷ []) ≡ marks_among (loans (map giving (clients n))) ++ [] = append_none (marks_among (loans (map giving (clients n))) ++ []) in
    let last : IsNumbered b (marks_of_all (grant n ∷ [])) b = subst (λ (ms : List Mark). IsNumbered b ms b) (sym own) (grant_numbered 1 n b (omega arith) (omega arith)) in
    let all : IsNumbered 0 (marks_of_all (map client (clients n)) ++ marks_of_all (grant n ∷ [])) b = clients_numbered 1 n (marks_of_all (grant n ∷ [])) b (omega arith) last in
    let woven = subst (λ (ms : List Mark). IsNumbered 0 ms b) (sym (marks_of_both (map client (clients n)) (grant n ∷ []))) all in
    subst (IsNumbered 0 (marks_of_all (arbiter n))) (omega (arith, many_names n)) woven

-- ---- its processes

client_whole : (i : ℕ) → IsProc (client i)
client_whole i =
    let one : 0 < 1 = omega arith in
    (refl, tt, (one, (one, (one, (one, tt)))))

grant_whole : (n : ℕ) → 2 ≤ n → IsProc (grant n)
grant_whole n h =
    let gs = map giving (clients n) in
    let many : 1 < count_of (loans gs) = omega (arith, many_loans gs, many_givings n) in
    (refl, tt, ((many, whole_loans gs), tt))

each_process : (P : Proc → Type 0) (n : ℕ) → ((i : ℕ) → P (client i)) → P (grant n) → AllByRecursion P (arbiter n)
each_process P n c g = all_both P (map client (clients n)) (grant n ∷ []) (all_ranged P client 1 n (λ i l m. c i)) (g, tt)

pub keeps_limits : (n : ℕ) → 2 ≤ n → n ≤ 255 → IsCommand (arbiter_names n) (arbiter n)
keeps_limits n some few = record {
  some = omega (arith, many_processes n);
  shaped = each_process IsProc n client_whole (grant_whole n some);
  bodied = each_process (λ p. IsTrue (is_some p.body)) n (λ i. refl) refl;
  numbered = numbered n;
  distinct = all_distinct n few;
  formed = all_named n few;
  few_brackets = each_process (λ p. brackets_of_proc p ≤ MAX_OPEN_BRACKETS) n (λ i. omega arith) (omega (arith, no_brackets (map giving (clients n))));
  few_symbols = omega (arith, many_names n);
  few_procs = omega (arith, many_processes n);
  few_places = omega (arith, many_places n);
}

pub keeps_limits_as : (n : ℕ) (ns : List (List ℕ)) (ps : List Proc) → 2 ≤ n → n ≤ 255 → ns ≡ arbiter_names n → ps ≡ arbiter n → IsCommand ns ps
keeps_limits_as n ns ps some few e f =
    subst (λ ms. IsCommand ms ps) (sym e) (subst (IsCommand (arbiter_names n)) (sym f) (keeps_limits n some few))
