-- A closed network has as many output ports, and as many input ports, as wires; and each node has a port.
use Rattle.std.proofs.Common.{◌≡◌, ℕ, zero, suc, ◌+◌, ◌<◌, ◌≤◌, Bool, true, false, not, List, [], ◌∷◌, ◌++◌, length, max, Option, None, Some, refl, sym, ap, ◌∙◌, arith, length-append}
use Rattle.std.specs.Prelude.{replicate, IsTrue, is_some, ◌||◌}
use Rattle.std.specs.List.{AllByRecursion, range_with_len}
use Rattle.std.proofs.lemmas.List.{length-map}
use Rattle.std.proofs.lemmas.List.FromFn.{length-range_with_len}
use Rattle.cmd_tree.specs.declared.tree.Mark.{Mark}
use Rattle.cmd_tree.specs.declared.tree.Proc.{Proc}
use Rattle.cmd_tree.specs.Tree.{TItem, TSeq, TSeqs, TBurst, TAlt, Stop, Or, Done, Then, marks_of, marks_in, marks_among}
use Rattle.cmd_tree.specs.Limits.{of_part, marks_of_proc, marks_of_all, count_of, IsItem, IsFull, AreSeqs, IsProc, IsPart, IsNumbered}
use Rattle.basic_kinds.specs.declared.kind.Kind.{Kind}
use Rattle.basic_kinds.specs.declared.kind.Kind.TheVariants.{Wire, Iwire, Source, Sink, Fork, C, Merge, Toggle, Dw, Seq}
use Rattle.basic_kinds.specs.Kinds.{inputs_of, outputs_of, IsWellFormed}
use Rattle.net_core.specs.declared.spec.NodeSpec.{NodeSpec}
use Rattle.net_core.specs.declared.spec.NodeSpec.TheVariants as spec
use Rattle.net_core.specs.Specs.{outs_of, IsFormed, sides, gives_symbol}
use Rattle.net_core.specs.Wiring.{Node, Circuit, IsWired, IsClosed, count, picked, side, flows, wiring, driven, received}
use Rattle.net_core.proofs.Counting.{count_nil, count_same, count_other, picked_all}
use Rattle.basic_kinds.specs.Totals.{total}
use Rattle.basic_kinds.proofs.Totals.{total_none, total_one, total_same}

-- ---- each number below n once in a list of such numbers

pub all_counted : (n : ℕ) (xs : List ℕ) → AllByRecursion (λ w. w < n) xs → total n (λ w. count w xs) ≡ length xs
all_counted n [] all = total_none n (λ w. count w []) (λ w h. count_nil w)
all_counted n (x ∷ xs) all =
    let one = total_one n (λ w. count w xs) (λ w. count w (x ∷ xs)) x all.0 (count_same x xs) (λ w h ne. count_other w x xs ne) in
    one ∙ ap suc (all_counted n xs all.1)

pub total_ones : (n : ℕ) → total n (λ w. 1) ≡ n
unfolding total
total_ones zero = refl
total_ones (suc n) = omega (arith, total_ones n)

pub each_once : (n : ℕ) (xs : List ℕ) → AllByRecursion (λ w. w < n) xs → ((w : ℕ) → w < n → count w xs ≡ 1) → length xs ≡ n
each_once n xs all once = sym (all_counted n xs all) ∙ total_same n (λ w. count w xs) (λ w. 1) once ∙ total_ones n

pub all_append : {A : Type 0} (P : A → Type 0) (xs ys : List A) → AllByRecursion P xs → AllByRecursion P ys → AllByRecursion P (xs ++ ys)
all_append P [] ys a b = b
all_append P (x ∷ xs) ys a b = (a.0, all_append P xs ys a.1 b)

flows_known : (n : ℕ) (b : Bool) (xs : List Node) → AllByRecursion (IsWired n) xs → AllByRecursion (λ w. w < n) (flows b xs)
unfolding flows
flows_known n b [] all = tt
flows_known n b (x ∷ xs) all =
    let fits : IsWired n x = all.0 in
    all_append (λ w. w < n) (side b x) (flows b xs) (picked_all (λ w. w < n) b (outs_of x.spec) x.ends fits.known) (flows_known n b xs all.1)

wiring_known : (n : ℕ) (b : Bool) (xs : List Node) → AllByRecursion (IsWired n) xs → AllByRecursion (λ w. w < n) (wiring b xs)
unfolding wiring
wiring_known n b [] all = tt
wiring_known n b (x ∷ xs) all =
    let fits : IsWired n x = all.0 in
    all_append (λ w. w < n) (side (not b) x) (flows b xs) (picked_all (λ w. w < n) (not b) (outs_of x.spec) x.ends fits.known) (flows_known n b xs all.1)

pub driven_many : (c : Circuit) → AllByRecursion (IsWired c.wires) c.nodes → IsClosed c → length (driven c) ≡ c.wires
driven_many c fit closed = each_once c.wires (driven c) (wiring_known c.wires true c.nodes fit) (λ w h. (closed w h).0)

pub received_many : (c : Circuit) → AllByRecursion (IsWired c.wires) c.nodes → IsClosed c → length (received c) ≡ c.wires
received_many c fit closed = each_once c.wires (received c) (wiring_known c.wires false c.nodes fit) (λ w h. (closed w h).1)

-- ---- each node has a port

mutual
  full_marks : (s : TSeq) → IsFull s → 0 < length (marks_of s)
  full_marks Done h = absurd h
  full_marks (Then i s) h = omega (arith, item_marks i h.0, length-append (marks_in i) (marks_of s))

  item_marks : (i : TItem) → IsItem i → 0 < length (marks_in i)
  item_marks (TBurst ms) h = h
  item_marks (TAlt ss) h = among_marks ss h.0 h.1

  among_marks : (ss : TSeqs) → 1 < count_of ss → AreSeqs ss → 0 < length (marks_among ss)
  among_marks Stop h all = absurd (omega arith)
  among_marks (Or s ss) h all = omega (arith, full_marks s all.0, length-append (marks_of s) (marks_among ss))

proc_marks : (p : Proc) → IsProc p → 0 < length (marks_of_proc p)
proc_marks p h = at p.lead p.body h.0 h.1 h.2
  where
    at : (lead body : Option TSeq) → IsTrue (is_some lead || is_some body) → IsPart lead → IsPart body → 0 < length (of_part [] marks_of lead ++ of_part [] marks_of body)
    at None None some l b = absurd (cc)
    at None (Some s) some l b = full_marks s b
    at (Some s) body some l b = omega (arith, full_marks s l, length-append (marks_of s) (of_part [] marks_of body))

number_grows : (k : ℕ) (ms : List Mark) (n : ℕ) → IsNumbered k ms n → k ≤ n
number_grows k [] n h = omega arith
number_grows k (m ∷ ms) n h = omega (arith, number_grows (max k (m.sym.0 + 1)) ms n h.1)

number_some : (ms : List Mark) (n : ℕ) → 0 < length ms → IsNumbered 0 ms n → 0 < n
number_some [] n h all = absurd (omega arith)
number_some (m ∷ ms) n h all = omega (arith, number_grows (max 0 (m.sym.0 + 1)) ms n all.1)

command_marks : (ps : List Proc) → 0 < length ps → AllByRecursion IsProc ps → 0 < length (marks_of_all ps)
command_marks [] h all = absurd (omega arith)
command_marks (p ∷ ps) h all = omega (arith, proc_marks p all.0, length-append (marks_of_proc p) (marks_of_all ps))

length_replicate : {A : Type 0} (n : ℕ) (x : A) → length (replicate n x) ≡ n
length_replicate zero x = refl
length_replicate (suc n) x = ap suc (length_replicate n x)

length_sides : (n m : ℕ) → length (sides n m) ≡ n + m
length_sides n m = length-append (replicate n false) (replicate m true) ∙ omega (arith, length_replicate n false, length_replicate m true)

kind_ports : (k : Kind) → IsWellFormed k → 0 < inputs_of k + outputs_of k
kind_ports Wire h = omega arith
kind_ports Iwire h = omega arith
kind_ports Source h = omega arith
kind_ports Sink h = omega arith
kind_ports (Fork n) h = omega arith
kind_ports (C n) h = omega arith
kind_ports (Merge n) h = omega arith
kind_ports Toggle h = omega arith
kind_ports (Dw s) h = let row = s.whole.some_row in omega arith
kind_ports (Seq k) h = omega arith

spec_ports : (s : NodeSpec) → IsFormed s → 0 < length (outs_of s)
spec_ports (spec.Kind k) h = omega (arith, kind_ports k h, length_sides (inputs_of k) (outputs_of k))
spec_ports (spec.Cmd c) h =
    let names = number_some (marks_of_all c.procs) (length c.names) (command_marks c.procs c.valid.some c.valid.shaped) c.valid.numbered in
    omega (arith, length-map (range_with_len 0 (length c.names)) (gives_symbol (marks_of_all c.procs)), length-range_with_len 0 (length c.names))

picked_both : (b : Bool) (ds : List Bool) (ws : List ℕ) → length ws ≡ length ds → length (picked b ds ws) + length (picked (not b) ds ws) ≡ length ds
unfolding picked
picked_both b [] ws e = refl
picked_both b (d ∷ ds) [] e = absurd (omega arith)
picked_both true (true ∷ ds) (w ∷ ws) e = let more = picked_both true ds ws (omega arith) in omega arith
picked_both true (false ∷ ds) (w ∷ ws) e = let more = picked_both true ds ws (omega arith) in omega arith
picked_both false (true ∷ ds) (w ∷ ws) e = let more = picked_both false ds ws (omega arith) in omega arith
picked_both false (false ∷ ds) (w ∷ ws) e = let more = picked_both false ds ws (omega arith) in omega arith

node_ports : (n : ℕ) (b : Bool) (x : Node) → IsWired n x → 0 < length (side b x) + length (side (not b) x)
node_ports n b x fits = let sized = fits.sized in omega (arith, picked_both b (outs_of x.spec) x.ends fits.sized, spec_ports x.spec fits.formed)

flows_many : (n : ℕ) (xs : List Node) → AllByRecursion (IsWired n) xs → length xs ≤ length (flows true xs) + length (flows false xs)
unfolding flows
flows_many n [] all = omega arith
flows_many n (x ∷ xs) all = omega (arith, flows_many n xs all.1, node_ports n true x all.0, length-append (side true x) (flows true xs), length-append (side false x) (flows false xs))

wiring_many : (n : ℕ) (xs : List Node) → AllByRecursion (IsWired n) xs → length xs ≤ length (wiring true xs) + length (wiring false xs)
unfolding wiring
wiring_many n [] all = omega arith
wiring_many n (x ∷ xs) all = omega (arith, flows_many n xs all.1, node_ports n false x all.0, length-append (side false x) (flows true xs), length-append (side true x) (flows false xs))

-- so there are at most two nodes a wire
pub nodes_few : (c : Circuit) → AllByRecursion (IsWired c.wires) c.nodes → IsClosed c → length c.nodes ≤ c.wires + c.wires
nodes_few c fit closed = omega (arith, wiring_many c.wires c.nodes fit, driven_many c fit closed, received_many c fit closed)
