-- What a network in the making keeps, from one step to the next.
use Rattle.std.proofs.Common.{◌≡◌, ℕ, zero, suc, ◌+◌, ◌-◌, ◌^◌, ◌<◌, ◌≤◌, Bool, true, false, List, [], ◌∷◌, ◌++◌, length, get_or, take, drop, replicate, sym, ap, subst, ◌∙◌, arith, inl, inr, refl, length-append, append_assoc, add-one}
use Rattle.std.specs.List.{AllByRecursion}
use Rattle.std.proofs.lemmas.Bool.{cases_lt}
use Rattle.std.proofs.lemmas.List.{length-replicate, get_or_past, take_all, take_at, length-take-le}
use Rattle.std.proofs.Math.Seq.{get_or-append_seam, take-suc}
use Rattle.std.proofs.lemmas.List.FromFn.{length-map-range_with_len}
use Rattle.cmd_tree.specs.Limits.{marks_of_all}
use Rattle.basic_kinds.specs.Kinds.{inputs_of, outputs_of}
use Rattle.net_core.specs.declared.spec.NodeSpec.{NodeSpec}
use Rattle.net_core.specs.declared.spec.NodeSpec.TheVariants.{Kind, Cmd}
use Rattle.net_core.specs.declared.table.End.{End}
use Rattle.net_core.specs.declared.table.Ends.{Ends}
use Rattle.net_core.specs.Specs.{outs_of, IsFormed, gives_symbol}
use Rattle.net_core.specs.Wiring.{Node, IsWired}
use Rattle.net_core.specs.Mirror.EndTables.{Place, IsTable, Added, Kept, KeptDraft, joined, end_in, turned, ports_of, all_ports, with_parts, driver_at, receiver_at, no_ends}
use Rattle.net_core.proofs.Counting.{all_at, all_weaker}
use Rattle.net_core.proofs.Joining.{joined_assoc, joined_free, end_nil, end_above, end-append, end_swap, from_all, all_all, all_ports-append, all_ports_one}
use Rattle.net_core.proofs.Found.{all_nodes}

-- a node has few ports
pub ports_few : (s : NodeSpec) → IsFormed s → length (outs_of s) < 2 ^ 28
ports_few (Kind k) h =
    omega (
      arith,
      h.few,
      length-append (replicate (inputs_of k) false) (replicate (outputs_of k) true),
      length-replicate (inputs_of k) false,
      length-replicate (outputs_of k) true,
    )
ports_few (Cmd c) h =
    omega (arith, c.valid.few_symbols, length-map-range_with_len (gives_symbol (marks_of_all c.procs)) 0 (length c.names))

fits_more : (k n : ℕ) (x : Node) → IsWired k x → IsWired (k + n) x
fits_more k n x f = record {
  sized = f.sized;
  known = all_weaker (λ w. w < k) (λ w. w < k + n) x.ends (λ w h. omega arith) f.known;
  formed = f.formed;
}

all_fit_more : (k n : ℕ) (xs : List Node) → AllByRecursion (IsWired k) xs → AllByRecursion (IsWired (k + n)) xs
all_fit_more k n [] all = tt
all_fit_more k n (x ∷ xs) all = (fits_more k n x all.0, all_fit_more k n xs all.1)

pub all_fit_push : (k : ℕ) (xs : List Node) (x : Node) → AllByRecursion (IsWired k) xs → IsWired k x → AllByRecursion (IsWired k) (xs ++ x ∷ [])
all_fit_push k [] x all f = (f, tt)
all_fit_push k (y ∷ xs) x all f = (all.0, all_fit_push k xs x all.1 f)

-- ---- tables of ends

no_ends_at : (n w : ℕ) → get_or (replicate n no_ends) w no_ends ≡ no_ends
no_ends_at zero w = refl
no_ends_at (suc n) zero = refl
no_ends_at (suc n) (suc w) = no_ends_at n w

longer_at : (ends : List Ends) (n w : ℕ) → get_or (ends ++ replicate n no_ends) w no_ends ≡ get_or ends w no_ends
longer_at [] n w = no_ends_at n w
longer_at (e ∷ ends) n zero = refl
longer_at (e ∷ ends) n (suc w) = longer_at ends n w

-- wires with no ports
pub empty_table : (n : ℕ) → IsTable n (replicate n no_ends) [] []
empty_table n = record {
  sized = length-replicate n no_ends;
  drivers_of = λ w h. ap (λ (e : Ends). e.driver) (no_ends_at n w) ∙ sym (end_nil w);
  receivers_of = λ w h. ap (λ (e : Ends). e.receiver) (no_ends_at n w) ∙ sym (end_nil w);
}

-- so many more wires
longer_table : (k n : ℕ) (ends : List Ends) (ds rs : List Place) → AllByRecursion (λ x. x.wire < k) ds → AllByRecursion (λ x. x.wire < k) rs
    → IsTable k ends ds rs → IsTable (k + n) (ends ++ replicate n no_ends) ds rs
longer_table k n ends ds rs low_ds low_rs t = record {
  sized = length-append ends (replicate n no_ends) ∙ omega (arith, t.sized, length-replicate n no_ends);
  drivers_of = λ w h. ap (λ (e : Ends). e.driver) (longer_at ends n w) ∙ elim (cases_lt w k) [
    | inl l ↦ t.drivers_of w l
    | inr past ↦ ap (λ (e : Ends). e.driver) (get_or_past ends w no_ends (omega (arith, t.sized))) ∙ sym (end_above k w ds (omega arith) low_ds)
  ];
  receivers_of = λ w h. ap (λ (e : Ends). e.receiver) (longer_at ends n w) ∙ elim (cases_lt w k) [
    | inl l ↦ t.receivers_of w l
    | inr past ↦ ap (λ (e : Ends). e.receiver) (get_or_past ends w no_ends (omega (arith, t.sized))) ∙ sym (end_above k w rs (omega arith) low_rs)
  ];
}

-- some more ports
pub added_table : (k : ℕ) (old new : List Ends) (ds rs ds' rs' : List Place) → IsTable k old ds rs → Added old new ds' rs' → IsTable k new (ds ++ ds') (rs ++ rs')
added_table k old new ds rs ds' rs' t added = record {
  sized = added.sized ∙ t.sized;
  drivers_of = λ w h. added.drivers_of w (omega (arith, t.sized)) ∙ ap (λ (e : End). joined e (end_in w ds')) (t.drivers_of w h) ∙ sym (end-append w ds ds');
  receivers_of = λ w h. added.receivers_of w (omega (arith, t.sized)) ∙ ap (λ (e : End). joined e (end_in w rs')) (t.receivers_of w h) ∙ sym (end-append w rs rs');
}

swapped_table : (k : ℕ) (ends : List Ends) (ds rs ds' rs' : List Place) → IsTable k ends (ds ++ ds') (rs ++ rs') → IsTable k ends (ds' ++ ds) (rs' ++ rs)
swapped_table k ends ds rs ds' rs' t = record {
  sized = t.sized;
  drivers_of = λ w h. t.drivers_of w h ∙ end_swap w ds ds';
  receivers_of = λ w h. t.receivers_of w h ∙ end_swap w rs rs';
}

-- nothing is added by no ports, and two additions are one
pub added_none : (ends : List Ends) (n : ℕ) → Added ends ends (all_ports true n []) (all_ports false n [])
unfolding all_ports
added_none ends n = record {
  sized = refl;
  drivers_of = λ w h. sym (ap (joined (driver_at ends w)) (end_nil w) ∙ joined_free (driver_at ends w));
  receivers_of = λ w h. sym (ap (joined (receiver_at ends w)) (end_nil w) ∙ joined_free (receiver_at ends w));
}

added_twice : (old mid new : List Ends) (ds rs ds' rs' : List Place) → Added old mid ds rs → Added mid new ds' rs' → Added old new (ds ++ ds') (rs ++ rs')
added_twice old mid new ds rs ds' rs' first second = record {
  sized = second.sized ∙ first.sized;
  drivers_of = λ w h. second.drivers_of w (omega (arith, first.sized)) ∙ ap (λ (e : End). joined e (end_in w ds')) (first.drivers_of w h)
      ∙ joined_assoc (driver_at old w) (end_in w ds) (end_in w ds') ∙ ap (joined (driver_at old w)) (sym (end-append w ds ds'));
  receivers_of = λ w h. second.receivers_of w (omega (arith, first.sized)) ∙ ap (λ (e : End). joined e (end_in w rs')) (first.receivers_of w h)
      ∙ joined_assoc (receiver_at old w) (end_in w rs) (end_in w rs') ∙ ap (joined (receiver_at old w)) (sym (end-append w rs rs'));
}

-- the ports of one node more
ports_push : (b : Bool) (n : ℕ) (xs : List Node) (x : Node) → all_ports b n (xs ++ x ∷ []) ≡ all_ports b n xs ++ ports_of b (n + length xs) x
ports_push b n xs x = all_ports-append b n xs (x ∷ []) ∙ ap (λ (l : List Place). all_ports b n xs ++ l) (all_ports_one b (n + length xs) x)

added_push : (old mid new : List Ends) (n m : ℕ) (xs : List Node) (x : Node) → m ≡ n + length xs → Added old mid (all_ports true n xs) (all_ports false n xs)
    → Added mid new (ports_of true m x) (ports_of false m x) → Added old new (all_ports true n (xs ++ x ∷ [])) (all_ports false n (xs ++ x ∷ []))
added_push old mid new n m xs x is first second =
    let second' : Added mid new (ports_of true (n + length xs) x) (ports_of false (n + length xs) x) = subst (λ k. Added mid new (ports_of true k x) (ports_of false k x)) is second in
    subst (λ (l : List Place). Added old new l (all_ports false n (xs ++ x ∷ []))) (sym (ports_push true n xs x))
    (subst (λ (l : List Place). Added old new (all_ports true n xs ++ ports_of true (n + length xs) x) l) (sym (ports_push false n xs x))
    (added_twice old mid new (all_ports true n xs) (all_ports false n xs) (ports_of true (n + length xs) x) (ports_of false (n + length xs) x) first second'))

pub added_next : (old mid new : List Ends) (n i : ℕ) (xs : List Node) (x : Node) → i < length xs → x ≡ get_or xs i x
    → Added old mid (all_ports true n (take i xs)) (all_ports false n (take i xs)) → Added mid new (ports_of true (n + i) x) (ports_of false (n + i) x)
    → Added old new (all_ports true n (take (i + 1) xs)) (all_ports false n (take (i + 1) xs))
added_next old mid new n i xs x h read first second =
    let short : length (take i xs) ≡ i = length-take-le i xs (omega arith) in
    let more : take i xs ++ x ∷ [] ≡ take (i + 1) xs = ap (λ y. take i xs ++ y ∷ []) read ∙ sym (take-suc xs i x h) ∙ ap (λ k. take k xs) (sym (add-one i)) in
    subst (λ (l : List Node). Added old new (all_ports true n l) (all_ports false n l)) more
    (added_push old mid new n (n + i) (take i xs) x (omega (arith, short)) first second)

-- the ports of nodes with others in the place of one, noted part by part
with_ports : (b : Bool) (xs : List Node) (a : ℕ) (parts : List Node) → a < length xs
    → (all_ports b 0 (take a xs) ++ all_ports b a parts) ++ all_ports b (a + length parts) (drop (suc a) xs) ≡ all_ports b 0 (with_parts xs a parts)
with_ports b xs a parts h =
    let front : a ≡ 0 + length (take a xs) = omega (arith, length-take-le a xs (omega arith)) in
    append_assoc (all_ports b 0 (take a xs)) (all_ports b a parts) (all_ports b (a + length parts) (drop (suc a) xs))
    ∙ ap (λ (l : List Place). all_ports b 0 (take a xs) ++ l) (sym (all_ports-append b a parts (drop (suc a) xs)))
    ∙ ap (λ m. all_ports b 0 (take a xs) ++ all_ports b m (parts ++ drop (suc a) xs)) front
    ∙ sym (all_ports-append b 0 (take a xs) (parts ++ drop (suc a) xs))

pub table_with : (k : ℕ) (one two three : List Ends) (xs : List Node) (a : ℕ) (parts : List Node) → a < length xs
    → Added (replicate k no_ends) one (all_ports true 0 (take a xs)) (all_ports false 0 (take a xs))
    → Added one two (all_ports true a parts) (all_ports false a parts)
    → Added two three (all_ports true (a + length parts) (drop (suc a) xs)) (all_ports false (a + length parts) (drop (suc a) xs))
    → IsTable k three (all_ports true 0 (with_parts xs a parts)) (all_ports false 0 (with_parts xs a parts))
table_with k one two three xs a parts h first second third =
    subst (λ (l : List Place). IsTable k three l (all_ports false 0 (with_parts xs a parts))) (with_ports true xs a parts h)
    (subst (λ (l : List Place). IsTable k three ((all_ports true 0 (take a xs) ++ all_ports true a parts) ++ all_ports true (a + length parts) (drop (suc a) xs)) l)
    (with_ports false xs a parts h)
    (added_table k two three (all_ports true 0 (take a xs) ++ all_ports true a parts) (all_ports false 0 (take a xs) ++ all_ports false a parts)
    (all_ports true (a + length parts) (drop (suc a) xs)) (all_ports false (a + length parts) (drop (suc a) xs))
    (added_table k one two (all_ports true 0 (take a xs)) (all_ports false 0 (take a xs)) (all_ports true a parts) (all_ports false a parts)
    (added_table k (replicate k no_ends) one [] [] (all_ports true 0 (take a xs)) (all_ports false 0 (take a xs)) (empty_table k) first) second) third))

-- the wires at ports of nodes are known
pub ports_known : (b : Bool) (k n : ℕ) (xs : List Node) → AllByRecursion (IsWired k) xs → AllByRecursion (λ x. x.wire < k) (all_ports b n xs)
ports_known b k n xs fit = all_all (λ x. x.wire < k) b n xs
    (λ m x e. let fits : IsWired k x = all_nodes (IsWired k) xs m x fit e in
    from_all (λ x. x.wire < k) (n + m) (turned b (n + m)) 0 (outs_of x.spec) x.ends fits.sized
    (λ i l s. all_at (λ w. w < k) x.ends i fits.known (omega (arith, fits.sized))))

-- ---- what is kept

-- a list made longer keeps what it had
pub resized : {A : Type 0} (xs : List A) (n k l : ℕ) (x : A) → k ≡ length xs → l ≡ length xs → take (k + n) xs ++ replicate (k + n - l) x ≡ xs ++ replicate n x
resized xs n k l x e f =
    let all : length xs ≤ k + n = omega arith in
    let more : k + n - l ≡ n = omega arith in
    ap (λ ys. ys ++ replicate (k + n - l) x) (take_all (k + n) xs all) ∙ ap (λ m. xs ++ replicate m x) more

-- so many more wires
pub more_wires : (s : NodeSpec) (xs : List Node) (k n : ℕ) (ends : List Ends) → KeptDraft s xs k ends → KeptDraft s xs (k + n) (ends ++ replicate n no_ends)
more_wires s xs k n ends h = record {
  formed = h.formed;
  fit = all_fit_more k n xs h.fit;
  few = h.few;
  table = longer_table k n ends (all_ports true 1 xs) (all_ports false 1 xs) (ports_known true k 1 xs h.fit) (ports_known false k 1 xs h.fit) h.table;
}

-- one more component
pub one_part : (s : NodeSpec) (xs : List Node) (k : ℕ) (ends new : List Ends) (x : Node) (n : ℕ) → KeptDraft s xs k ends → IsWired k x → suc (suc (length xs)) < 2 ^ 32
    → n ≡ suc (length xs) → Added ends new (ports_of true n x) (ports_of false n x) → KeptDraft s (xs ++ x ∷ []) k new
one_part s xs k ends new x n h fit few is added = record {
  formed = h.formed;
  fit = all_fit_push k xs x h.fit fit;
  few = omega (arith, length-append xs (x ∷ []));
  table =
      subst (λ (l : List Place). IsTable k new l (all_ports false 1 (xs ++ x ∷ []))) (ports true)
      (subst (λ (l : List Place). IsTable k new (all_ports true 1 xs ++ ports_of true n x) l) (ports false)
      (added_table k ends new (all_ports true 1 xs) (all_ports false 1 xs) (ports_of true n x) (ports_of false n x) h.table added));
}
  where
    ports : (b : Bool) → all_ports b 1 xs ++ ports_of b n x ≡ all_ports b 1 (xs ++ x ∷ [])
    ports b = let next : n ≡ 1 + length xs = omega (arith, is) in ap (λ m. all_ports b 1 xs ++ ports_of b m x) next ∙ sym (ports_push b 1 xs x)

-- the environment, and all is there
pub whole : (s : NodeSpec) (xs : List Node) (k : ℕ) (ends new : List Ends) (ws : List ℕ) → KeptDraft s xs k ends → IsWired k (record { spec = s; ends = ws })
    → Added ends new (ports_of true 0 (record { spec = s; ends = ws })) (ports_of false 0 (record { spec = s; ends = ws })) → Kept (record { spec = s; ends = ws } ∷ xs) k new
unfolding all_ports
whole s xs k ends new ws h fit added = record {
  some = omega arith;
  fit = (fit, h.fit);
  few = omega (arith, h.few);
  table = swapped_table k new (all_ports true 1 xs) (all_ports false 1 xs) (ports_of true 0 (record { spec = s; ends = ws })) (ports_of false 0 (record { spec = s; ends = ws }))
      (added_table k ends new (all_ports true 1 xs) (all_ports false 1 xs) (ports_of true 0 (record { spec = s; ends = ws })) (ports_of false 0 (record { spec = s; ends = ws })) h.table added);
}

-- the element that was pushed last, read back by its index
pub last_is : {A : Type 0} (xs : List A) (x y : A) (items : List A) (n : ℕ) → items ≡ xs ++ x ∷ [] → n ≡ length xs → y ≡ get_or items n y → y ≡ x
last_is xs x y items n are last read =
    read ∙ ap (λ (l : List _). get_or l n y) are ∙ ap (λ (k : ℕ). get_or (xs ++ x ∷ []) k y) last ∙ get_or-append_seam xs x [] y

-- a slice of a vector that was written through is all of the vector
pub written_all : {A : Type 0} (new old : List A) (n : ℕ) → length new ≡ n → take n (new ++ drop (length new) old) ≡ new
written_all new old n e = take_at new (drop (length new) old) n e

pub wires_few : (k : ℕ) (x : Node) → IsWired k x → length x.ends < 2 ^ 28
wires_few k x f = omega (arith, f.sized, ports_few x.spec f.formed)
