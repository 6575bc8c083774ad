-- The sums of an admitted command in the basis two are below 2^64.
use Rattle.std.specs.Prelude.{nat_eq, nat_lt, if◌then◌else◌, not}
use Rattle.std.specs.List.{filter, list_any, range_with_len, AllByRecursion}
use Rattle.std.proofs.Common.{◌≡◌, inl, inr, ℕ, zero, suc, ◌+◌, ◌*◌, ◌-◌, ◌<◌, ◌≤◌, ◌^◌, Bool, true, false, ◌&&◌, List, [], ◌∷◌, ◌++◌, length, map, get_or, Option, None, Some, refl, ap, ◌∙◌, arith}
use Rattle.std.proofs.Math.Nat.{mul-le-mul_left}
use Rattle.std.proofs.lemmas.Bool.{cases_lt, ltb-true}
use Rattle.std.proofs.lemmas.Bool.Decides.{nat_tests}
use Rattle.std.proofs.lemmas.List.{length-map}
use Rattle.cmd_tree.specs.declared.command.Command.{Command}
use Rattle.cmd_tree.specs.declared.tree.Mark.{Mark}
use Rattle.cmd_tree.specs.declared.tree.Proc.{Proc}
use Rattle.cmd_tree.specs.declared.tree.Sym.{Sym}
use Rattle.cmd_tree.specs.Tree.{TItem, TSeq, TSeqs, TBurst, TAlt, Stop, Or, Done, Then, places_of, places_in, places_among}
use Rattle.cmd_tree.specs.Limits.{IsSeq, IsItem, AreSeqs, IsFull, IsPart, IsProc, count_of, of_part, places_of_proc, places_of_all}
use Rattle.cmd_tree.specs.Lists.{is_in}
use Rattle.process_laws.specs.GrantForms.{Giving, returned_of}
use Rattle.net_laws.proofs.Among.{Among}
use Rattle.basic_kinds.specs.Sorts.{Sort, Iwires, Sources, Forks, Joins, Merges, Wires, Toggles, Sequencers, how_many}
use Rattle.basic_kinds.specs.ShapeParts.{half, label, one_column, part_at, part_rows, part_columns, local_part, local_crossing, has_row, has_column, part_names}
use Rattle.basic_kinds.specs.Sums.{Counted, One, Wide, Wait, Sequencer, so_many, two_way_sum, wait_sum, requests_sum, sequencers_sum, total_of}
use Rattle.di_grammar.specs.Admitted.{Admitted}
use Rattle.di_grammar.specs.Grants.{IsGrant}
use Rattle.di_grammar.specs.Lists.{Each}
use Rattle.place_graph.specs.declared.leg.Leg.{Leg}
use Rattle.place_graph.specs.declared.wait_graph.Act.{Act}
use Rattle.place_graph.specs.declared.wait_graph.Cross.{Cross}
use Rattle.place_graph.specs.declared.wait_graph.Start.{Start}
use Rattle.place_graph.specs.declared.wait_graph.Start.TheVariants as start
use Rattle.place_graph.specs.declared.wait_graph.WaitGraph.{WaitGraph}
use Rattle.place_graph.specs.declared.styles.SplitStyle.TheVariants.{OneWait, Rounds, Token}
use Rattle.place_graph.specs.Chart.{Chart}
use Rattle.place_graph.specs.Drawable.{IsDrawable}
use Rattle.place_graph.specs.Graph.{graph_of, has_sym, is_act, acts_of, act}
use Rattle.place_graph.specs.Mirror.Numbers.{IsInput}
use Rattle.place_graph.specs.Points.{legs, Among as Member}
use Rattle.place_graph.specs.Style.{is_exit, has_entry, in_rounds, style_of}
use Rattle.place_graph.specs.Sums as graph
use Rattle.place_graph.specs.Sums.{symbols_at, outs_at, entries_of, givers, all_acts, joins, calls, shows, first_act, gate, begins_at, spreads, is_one, is_straight, directs, exits, moves, returns, leading, first_wait, pairs, meetings, of_style, counted, processes, command_sum}
use Rattle.place_graph.proofs.Admission.{charts, drawables}
use Rattle.place_graph.proofs.BurstSets.{bursts_inputs}
use Rattle.place_graph.proofs.Listed.{filter_one}
use Rattle.plain_split.proofs.OneWaitWires.{marks_places}
use Rattle.count_sum.proofs.ReadableGraphs.{waits_low, bursts_low, crosses_low, acts_low, marks_low, no_grant}
use Rattle.cmd_tree.specs.Limits.{marks_of_proc}
use Rattle.cmd_tree.specs.Meaning.{has_symbol}
use Rattle.di_grammar.specs.Outputs.{out_of}
use Rattle.di_grammar.specs.Sums.{gift, loan, all_of, of_several, plain_ring, release_ring, after_input, one_input, each_once, body_ring, ring_of_parts, ring, ring_or_none, rings, grants, made, standing, meeting, woven}
use Rattle.count_sum.specs.Counts.{all_sorts}
use Rattle.count_sum.proofs.SortCounts.{all_both, so_many_all}
use Rattle.shape_parts.proofs.Layered.{half_near}
use Rattle.count_sum.proofs.WaitBound.{less_one, layers_bounded, filter_low, range_long}
use Rattle.count_sum.proofs.RingSteps.{all_long}

-- ---- sizes

abbrev pub size : Counted → ℕ
size x = all_sorts (two_way_sum x)

abbrev pub sizes : List Counted → ℕ
sizes [] = 0
sizes (x ∷ xs) = size x + sizes xs

pub total_size : (xs : List Counted) → all_sorts (total_of two_way_sum xs) ≡ sizes xs
total_size [] = refl
total_size (x ∷ xs) = omega (arith, all_both (two_way_sum x) (total_of two_way_sum xs), total_size xs)

pub sizes_both : (xs ys : List Counted) → sizes (xs ++ ys) ≡ sizes xs + sizes ys
sizes_both [] ys = omega arith
sizes_both (x ∷ xs) ys = omega (arith, sizes_both xs ys)

pub sizes_map : {A : Type 0} (f : A → Counted) (b : ℕ) (is : List A) → ((i : A) → Among i is → size (f i) ≤ b) → sizes (map f is) ≤ length is * b
sizes_map f b [] h = omega arith
sizes_map f b (i ∷ is) h = omega (arith, h i (inl refl), sizes_map f b is (λ j a. h j (inr a)))

pub wide_size : (s : Sort) (n b : ℕ) → n ≤ b → size (Wide s n) ≤ b
wide_size s n b h = omega (arith, so_many_all (n - 1) s, h)

pub one_size : (s : Sort) → size (One s) ≤ 1
one_size s = omega (arith, so_many_all 1 s)

-- ---- products

grown : (a b c d : ℕ) → a ≤ c → b ≤ d → a * b ≤ c * d
grown a b c d x y =
    let z : a * b ≤ a * d = mul-le-mul_left a y in
    let w : d * a ≤ d * c = mul-le-mul_left d x in
    omega (arith, z, w)

squares : (g h : ℕ) → g ≤ h + 1 → h ≤ g → 1 ≤ h → 3 * (g * g + h * h) + 2 * (g + h) ≤ 16 * (g * h)
squares g h low high some =
    let one : h * 1 ≤ h * h = mul-le-mul_left h some in
    elim (cases_lt h g) [
      | inl less ↦ let e : g ≡ h + 1 = omega arith in omega (arith, one, some, ap (λ (x : ℕ). x * x) e, ap (λ (x : ℕ). x * h) e, e)
      | inr same ↦ let e : g ≡ h = omega arith in omega (arith, one, some, ap (λ (x : ℕ). x * x) e, ap (λ (x : ℕ). x * h) e, e)
    ]

less_most : (n k : ℕ) → n ≤ k → 1 ≤ k → less_one n ≤ k
less_most zero k h some = some
less_most (suc zero) k h some = some
less_most (suc (suc n)) k h some = omega (arith, h)

-- ---- a SEQ

column_low : (g : ℕ) → 1 ≤ g → all_sorts (wait_sum g 1 (one_column g)) + 2 * g ≤ 3 * (g * g)
column_low g some =
    let long : length (one_column g) ≡ g = length-map {B = ℕ × ℕ} (range_with_len 0 g) (λ (i : ℕ). (i, 0)) ∙ range_long 0 g in
    let low : all_sorts (wait_sum g 1 (one_column g)) + 2 * length (one_column g) ≤ 3 * (length (one_column g) * (less_one g * 1)) = layers_bounded (g + 1) g 1 (one_column g) in
    let less : g * (less_one g * 1) ≤ g * g = mul-le-mul_left g (let z : less_one g * 1 ≤ g = omega (arith, less_most g g (omega arith) some) in z) in
    omega (arith, low, long, less, ap (λ (n : ℕ). n * (less_one g * 1)) long)

requests_low : (inner : ℕ → Sort → ℕ) → ((g : ℕ) → all_sorts (inner g) ≤ 8 * (g * g) + 1) → (g : ℕ) → all_sorts (requests_sum inner g) ≤ 11 * (g * g) + 2 * g
requests_low inner low g = by (nat_lt g 2) refl
  where
    by : (b : Bool) → nat_lt g 2 ≡ b
        → all_sorts (λ t. if b then 0 else inner g t + (so_many (2 * g) Forks t + (so_many (2 * (g - 1)) Merges t + (so_many 1 Iwires t + wait_sum g 1 (one_column g) t)))) ≤ 11 * (g * g) + 2 * g
    by true e = omega arith
    by false e =
        let more : 2 ≤ g = grind (arith, nat_tests) in
        let first : all_sorts (λ t. so_many 1 Iwires t + wait_sum g 1 (one_column g) t) ≡ all_sorts (so_many 1 Iwires) + all_sorts (wait_sum g 1 (one_column g)) = all_both (so_many 1 Iwires) (wait_sum g 1 (one_column g)) in
        let second : all_sorts (λ t. so_many (2 * (g - 1)) Merges t + (so_many 1 Iwires t + wait_sum g 1 (one_column g) t)) ≡ all_sorts (so_many (2 * (g - 1)) Merges) + all_sorts (λ t. so_many 1 Iwires t + wait_sum g 1 (one_column g) t) =
        all_both (so_many (2 * (g - 1)) Merges) (λ t. so_many 1 Iwires t + wait_sum g 1 (one_column g) t) in
        let third : all_sorts (λ t. so_many (2 * g) Forks t + (so_many (2 * (g - 1)) Merges t + (so_many 1 Iwires t + wait_sum g 1 (one_column g) t))) ≡ all_sorts (so_many (2 * g) Forks) + all_sorts (λ t. so_many (2 * (g - 1)) Merges t + (so_many 1 Iwires t + wait_sum g 1 (one_column g) t)) =
        all_both (so_many (2 * g) Forks) (λ t. so_many (2 * (g - 1)) Merges t + (so_many 1 Iwires t + wait_sum g 1 (one_column g) t)) in
        let all : all_sorts (λ t. inner g t + (so_many (2 * g) Forks t + (so_many (2 * (g - 1)) Merges t + (so_many 1 Iwires t + wait_sum g 1 (one_column g) t)))) ≡ all_sorts (inner g) + all_sorts (λ t. so_many (2 * g) Forks t + (so_many (2 * (g - 1)) Merges t + (so_many 1 Iwires t + wait_sum g 1 (one_column g) t))) =
        all_both (inner g) (λ t. so_many (2 * g) Forks t + (so_many (2 * (g - 1)) Merges t + (so_many 1 Iwires t + wait_sum g 1 (one_column g) t))) in
        omega (arith, first, second, third, all, low g, column_low g (omega (arith, more)), so_many_all (2 * g) Forks, so_many_all (2 * (g - 1)) Merges, so_many_all 1 Iwires, more)

seq_low : (n k : ℕ) → all_sorts (sequencers_sum n k) ≤ 8 * (k * k) + 1
seq_low zero k = omega arith
seq_low (suc n) k = by (nat_lt 2 k) refl (seq_low n)
  where
    by : (b : Bool) → nat_lt 2 k ≡ b → ((g : ℕ) → all_sorts (sequencers_sum n g) ≤ 8 * (g * g) + 1)
        → all_sorts (λ t. so_many 1 Sequencers t + (if b then requests_sum (sequencers_sum n) (half k) t + requests_sum (sequencers_sum n) (k - half k) t else 0)) ≤ 8 * (k * k) + 1
    by false e low = omega (arith, all_both (so_many 1 Sequencers) (λ t. 0), so_many_all 1 Sequencers)
    by true e low =
        let g : ℕ = half k in
        let h : ℕ = k - half k in
        let near : (k ≤ 2 * half k) × (2 * half k ≤ k + 1) = half_near k in
        let more : 2 < k = ltb-true 2 k e in
        let whole : k ≡ g + h = omega (arith, near.1, more) in
        let groups : all_sorts (λ t. requests_sum (sequencers_sum n) g t + requests_sum (sequencers_sum n) h t) ≡ all_sorts (requests_sum (sequencers_sum n) g) + all_sorts (requests_sum (sequencers_sum n) h) =
        all_both (requests_sum (sequencers_sum n) g) (requests_sum (sequencers_sum n) h) in
        let all : all_sorts (λ t. so_many 1 Sequencers t + (requests_sum (sequencers_sum n) g t + requests_sum (sequencers_sum n) h t)) ≡ all_sorts (so_many 1 Sequencers) + all_sorts (λ t. requests_sum (sequencers_sum n) g t + requests_sum (sequencers_sum n) h t) =
        all_both (so_many 1 Sequencers) (λ t. requests_sum (sequencers_sum n) g t + requests_sum (sequencers_sum n) h t) in
        let room = squares g h (omega (arith, near.1, more)) (omega (arith, near.0, more)) (omega (arith, near.1, more)) in
        omega (arith, all, groups, so_many_all 1 Sequencers, requests_low (sequencers_sum n) low g, requests_low (sequencers_sum n) low h, room, ap (λ (x : ℕ). x * x) whole)

pub sequencer_low : (k b : ℕ) → k ≤ b → size (Sequencer k) ≤ 8 * (b * b) + 1
sequencer_low k b h = omega (arith, seq_low k k, grown k k b b h h)

-- ---- what stands for a grant

mutual
  full_some : (s : TSeq) → IsFull s → 1 ≤ places_of s
  full_some Done h = absurd h
  full_some (Then i s) h = omega (arith, item_some i h.0)

  item_some : (i : TItem) → IsItem i → 1 ≤ places_in i
  item_some (TBurst ms) h = omega (arith, h)
  item_some (TAlt ss) h = omega (arith, h.0, alternatives ss h.1)

  pub alternatives : (ss : TSeqs) → AreSeqs ss → count_of ss ≤ places_among ss
  alternatives Stop h = omega arith
  alternatives (Or s ss) h = omega (arith, full_some s h.0, alternatives ss h.1)

several_low : {A : Type 0} (f : List A → List Counted) (o : Option (List A)) (b : ℕ) → ((xs : List A) → o ≡ Some xs → sizes (f xs) ≤ b) → sizes (ring_or_none (of_several f o)) ≤ b
several_low f None b h = omega arith
several_low f (Some []) b h = omega arith
several_low f (Some (x ∷ [])) b h = omega arith
several_low f (Some (x ∷ y ∷ xs)) b h = h (x ∷ y ∷ xs) refl

after_low : (x : Option ℕ) (o : Option (List Counted)) (b : ℕ) → sizes (ring_or_none o) ≤ b → sizes (ring_or_none (after_input x o)) ≤ b
after_low None o b h = omega arith
after_low (Some n) o b h = h

once_low : (xs : List ℕ) → length (each_once xs) ≤ length xs
once_low [] = omega arith
once_low (x ∷ xs) = by (is_in x xs) (once_low xs)
  where
    by : (b : Bool) → length (each_once xs) ≤ length xs → length (if b then each_once xs else x ∷ each_once xs) ≤ length (x ∷ xs)
    by true h = omega (arith, h)
    by false h = omega (arith, h)

-- 2^13 places at most
abbrev pub most : ℕ
most = 8192

abbrev of_ring : ℕ
of_ring = 8 * (most * most) + 1 + 1 + most

module _ (ss : TSeqs) (few : count_of ss ≤ most) where
  plain_low : sizes (ring_or_none (of_several plain_ring (all_of gift ss))) ≤ of_ring
  plain_low = several_low plain_ring (all_of gift ss) of_ring (λ xs e. omega (arith, sequencer_low (length xs) most (omega (arith, few, all_long gift ss xs e))))

  release_low : sizes (ring_or_none (of_several release_ring (all_of loan ss))) ≤ of_ring
  release_low = several_low release_ring (all_of loan ss) of_ring
      (λ xs e.
      let long : length xs ≤ most = omega (arith, few, all_long loan ss xs e) in
      let returns : length (each_once (returned_of xs)) ≤ most = omega (arith, long, once_low (returned_of xs), length-map xs (λ (g : Giving). g.returned)) in
      omega (arith, sequencer_low (length xs) most long, one_size Iwires, wide_size Merges (length (each_once (returned_of xs))) most returns))

body_low : (s : TSeq) → IsSeq s → places_of s ≤ most → sizes (ring_or_none (body_ring s)) ≤ of_ring
body_low Done h few = omega arith
body_low (Then (TBurst ms) Done) h few = omega arith
body_low (Then (TAlt ss) Done) h few = release_low ss (omega (arith, few, alternatives ss h.0.1))
body_low (Then (TBurst ms) (Then (TAlt ss) Done)) h few = after_low (one_input (TBurst ms)) (of_several plain_ring (all_of gift ss)) of_ring (plain_low ss (omega (arith, few, alternatives ss h.1.0.1)))
body_low (Then (TAlt ts) (Then (TAlt ss) Done)) h few = after_low (one_input (TAlt ts)) (of_several plain_ring (all_of gift ss)) of_ring (plain_low ss (omega (arith, few, alternatives ss h.1.0.1)))
body_low (Then (TBurst ns) (Then (TBurst ms) s)) h few = omega arith
body_low (Then (TAlt ts) (Then (TBurst ms) s)) h few = omega arith
body_low (Then (TBurst ns) (Then (TAlt ss) (Then j s))) h few = omega arith
body_low (Then (TAlt ts) (Then (TAlt ss) (Then j s))) h few = omega arith

pub full_seq : (s : TSeq) → IsFull s → IsSeq s
full_seq Done h = absurd h
full_seq (Then i s) h = h

ring_low : (lead body : Option TSeq) → IsPart body → of_part 0 places_of body ≤ most → sizes (ring_or_none (ring_of_parts lead body)) ≤ of_ring
ring_low None None h few = omega arith
ring_low None (Some s) h few = body_low s (full_seq s h) few
ring_low (Some l) body h few = omega arith

rings_low : (ps : List Proc) → AllByRecursion IsProc ps → places_of_all ps ≤ most → sizes (rings ps) ≤ length ps * of_ring
rings_low [] h few = omega arith
rings_low (p ∷ ps) h few =
    omega (arith, sizes_both (ring_or_none (ring p)) (rings ps), ring_low p.lead p.body h.0.2 (omega (arith, few)), rings_low ps h.1 (omega (arith, few)))

-- ---- symbols

how_few : {A : Type 0} (test : A → Bool) (xs : List A) → how_many test xs ≤ length xs
how_few test [] = omega arith
how_few test (x ∷ xs) = by (test x) (how_few test xs)
  where
    by : (b : Bool) → how_many test xs ≤ length xs → (if b then 1 else 0) + how_many test xs ≤ length (x ∷ xs)
    by true h = omega (arith, h)
    by false h = omega (arith, h)

meeting_low : (ps : List Proc) (a : ℕ) → size (meeting ps a) ≤ length ps
meeting_low ps a = by (out_of ps a)
  where
    by : (b : Bool) → size (if b then Wide Joins (made ps a) else Wide Forks (standing ps a)) ≤ length ps
    by true = wide_size Joins (made ps a) (length ps) (how_few (λ p. has_symbol (marks_of_proc p) a && not (grants p)) ps)
    by false = wide_size Forks (standing ps a) (length ps) (how_few (λ p. has_symbol (marks_of_proc p) a) ps)

pub woven_low : (ps : List Proc) (names : ℕ) → AllByRecursion IsProc ps → places_of_all ps ≤ most → sizes (woven ps names) ≤ names * length ps + length ps * of_ring
woven_low ps names h few = omega (
  arith,
  sizes_both (map (meeting ps) (range_with_len 0 names)) (rings ps),
  sizes_map (meeting ps) (length ps) (range_with_len 0 names) (λ a i. meeting_low ps a),
  ap (λ (n : ℕ). n * length ps) (range_long 0 names),
  rings_low ps h few,
)

-- ---- a process

get_low : {A : Type 0} (f : A → ℕ) (b : ℕ) (xs : List A) (d : A) → AllByRecursion (λ x. f x ≤ b) xs → f d ≤ b → (n : ℕ) → f (get_or xs n d) ≤ b
get_low f b [] d h low n = low
get_low f b (x ∷ xs) d h low zero = h.0
get_low f b (x ∷ xs) d h low (suc n) = get_low f b xs d h.1 low n

sizes_each : {A : Type 0} (f : A → Counted) (g : A → ℕ) (b : ℕ) (xs : List A) → AllByRecursion (λ x. g x ≤ b) xs → ((x : A) → g x ≤ b → size (f x) ≤ b) → sizes (map f xs) ≤ length xs * b
sizes_each f g b [] h low = omega arith
sizes_each f g b (x ∷ xs) h low = omega (arith, low x h.0, sizes_each f g b xs h.1 low)

all_weaker : {A : Type 0} (f g : A → ℕ) (b c : ℕ) (xs : List A) → AllByRecursion (λ x. f x ≤ b) xs → ((x : A) → f x ≤ b → g x ≤ c) → AllByRecursion (λ x. g x ≤ c) xs
all_weaker f g b c [] h low = tt
all_weaker f g b c (x ∷ xs) h low = (low x h.0, all_weaker f g b c xs h.1 low)

gate_low : (es : List ℕ) → size (gate es) ≤ 1
gate_low [] = one_size Sources
gate_low (e ∷ es) = one_size Iwires

wait_size : (r m : ℕ) (cross : List (ℕ × ℕ)) → r ≤ most → m ≤ most → length cross ≤ most → size (Wait r m cross) ≤ 3 * (most * (most * most))
wait_size r m cross a b c =
    let low = layers_bounded (r + m) r m cross in
    let lines : less_one r * less_one m ≤ most * most = grown (less_one r) (less_one m) most most (less_most r most a (omega arith)) (less_most m most b (omega arith)) in
    let all : length cross * (less_one r * less_one m) ≤ most * (most * most) = grown (length cross) (less_one r * less_one m) most (most * most) c lines in
    omega (arith, low, all)

bursts_few : (L : List Leg) (k : ℕ) → ((l : Leg) → Member L l → length l.marks ≤ k) → (bs : List (List Sym)) → AllByRecursion (IsInput L) bs → AllByRecursion (λ b. length b ≤ k) bs
bursts_few L k low [] h = tt
bursts_few L k low (b ∷ bs) h = (
  omega (arith, low h.0.leg h.0.among, length-map h.0.leg.marks (λ (m : Mark). m.sym), ap (λ (ss : List Sym). length ss) h.0.burst),
  bursts_few L k low bs h.1,
)

outs_low : (L M : List Leg) (k : ℕ) → ((l : Leg) → Member M l → length l.marks ≤ k) → AllByRecursion (λ (y : Act). length y.outs ≤ k) (map (act L) M)
outs_low L [] k h = tt
outs_low L (m ∷ M) k h = (omega (arith, h m (inl refl), length-map m.marks (λ (x : Mark). x.sym)), outs_low L M k (λ l a. h l (inr a)))

exit_low : (o : Option ℕ) → exits o ≤ 1
exit_low None = omega arith
exit_low (Some w) = omega arith

abbrev of_process : ℕ
of_process = most * most + most * most + most * most + most + (most * (most + 1) + most * most + 1 + most * (3 * (most * (most * most))))

module _ (p : Proc) (out : ℕ → Bool) (chart : Chart (legs p) out) (draw : IsDrawable p) (names : ℕ) (few_names : names ≤ most) where
  abbrev g : WaitGraph
  g = graph_of p

  few : places_of_proc p ≤ most
  few = draw.few_places

  waits : g.waits ≤ most
  waits = omega (arith, few, waits_low p out chart draw)

  bursts : length g.bursts ≤ most
  bursts = omega (arith, few, bursts_low p out chart draw)

  crosses : length g.crosses ≤ most
  crosses = omega (arith, few, crosses_low p out chart draw)

  acts : length g.acts ≤ most
  acts = omega (arith, few, acts_low p out chart draw)

  marks : (l : Leg) → Member (legs p) l → length l.marks ≤ most
  marks l a = omega (arith, few, marks_places p, marks_low (legs p) l a)

  all_outs : AllByRecursion (λ (y : Act). length y.outs ≤ most) g.acts
  all_outs = outs_low (legs p) (acts_of (legs p)) most (λ l a. marks l (filter_one is_act (legs p) l a).0)

  scaled : (n : ℕ) → n ≤ most → (b : ℕ) → n * b ≤ most * b
  scaled n h b = grown n b most b h (omega arith)

  joins_low : sizes (joins g) ≤ most * most
  joins_low = omega (
    arith,
    sizes_map (λ (b : ℕ). Wide Joins (length (symbols_at g b))) most (range_with_len 0 (length g.bursts))
        (λ b i. wide_size Joins (length (symbols_at g b)) most (get_low (λ (s : List Sym). length s) most g.bursts [] (bursts_few (legs p) most marks g.bursts (bursts_inputs (legs p))) (omega arith) b)),
    ap (λ (n : ℕ). n * most) (range_long 0 (length g.bursts)),
    scaled (length g.bursts) bursts most,
  )

  entries_low : (n : ℕ) → length (entries_of g n) ≤ most
  entries_low n = omega (arith, crosses, length-map (filter (λ (c : Cross). nat_eq c.act n) g.crosses) (λ (c : Cross). c.burst), filter_low (λ (c : Cross). nat_eq c.act n) g.crosses)

  calls_low : sizes (calls g) ≤ most * most
  calls_low = omega (
    arith,
    sizes_map (λ (n : ℕ). Wide Merges (length (entries_of g n))) most (range_with_len 0 (length g.acts)) (λ n i. wide_size Merges (length (entries_of g n)) most (entries_low n)),
    ap (λ (n : ℕ). n * most) (range_long 0 (length g.acts)),
    scaled (length g.acts) acts most,
  )

  givers_low : (a : ℕ) → length (givers g a) ≤ most
  givers_low a = omega (arith, acts, filter_low (λ n. has_sym (record { 0 = a }) (outs_at g n)) (range_with_len 0 (length g.acts)), range_long 0 (length g.acts))

  shows_low : sizes (shows g names) ≤ most * most
  shows_low = omega (
    arith,
    sizes_map (λ (a : ℕ). Wide Merges (length (givers g a))) most (range_with_len 0 names) (λ a i. wide_size Merges (length (givers g a)) most (givers_low a)),
    ap (λ (n : ℕ). n * most) (range_long 0 names),
    scaled names few_names most,
  )

  first_low : sizes (first_act g) ≤ most
  first_low = omega (
    arith,
    sizes_map (λ (n : ℕ). gate (entries_of g n)) 1 (filter (begins_at g.start) (all_acts g)) (λ n i. gate_low (entries_of g n)),
    filter_low (begins_at g.start) (all_acts g),
    range_long 0 (length g.acts),
    acts,
  )

  spreads_low : sizes (spreads g) ≤ most * most
  spreads_low = omega (
    arith,
    sizes_map (λ (n : ℕ). Wide Forks (length (outs_at g n))) most (range_with_len 0 (length g.acts)) (λ n i. wide_size Forks (length (outs_at g n)) most (outs_few n)),
    ap (λ (n : ℕ). n * most) (range_long 0 (length g.acts)),
    scaled (length g.acts) acts most,
  )
    where
      all_rows : (ys : List Act) → AllByRecursion (λ (y : Act). length y.outs ≤ most) ys → AllByRecursion (λ (s : List Sym). length s ≤ most) (map (λ (y : Act). y.outs) ys)
      all_rows [] h = tt
      all_rows (y ∷ ys) h = (h.0, all_rows ys h.1)

      outs_few : (n : ℕ) → length (outs_at g n) ≤ most
      outs_few n = get_low (λ (s : List Sym). length s) most (map (λ (y : Act). y.outs) g.acts) [] (all_rows g.acts all_outs) (omega arith) n

  directs_low : sizes (directs g names) ≤ most
  directs_low = omega (
    arith,
    sizes_map (λ (a : ℕ). One Wires) 1 (filter (λ a. is_one (is_straight g) (givers g a)) (range_with_len 0 names)) (λ a i. one_size Wires),
    filter_low (λ a. is_one (is_straight g) (givers g a)) (range_with_len 0 names),
    range_long 0 names,
    few_names,
  )

  moves_low : sizes (moves g) ≤ most * (most + 1)
  moves_low = omega (
    arith,
    sizes_each (λ (y : Act). Wide Forks (length y.outs + exits y.exit)) (λ (y : Act). length y.outs + exits y.exit) (most + 1) g.acts
        (all_weaker (λ (y : Act). length y.outs) (λ (y : Act). length y.outs + exits y.exit) most (most + 1) g.acts all_outs (λ y h. omega (arith, h, exit_low y.exit)))
        (λ y h. wide_size Forks (length y.outs + exits y.exit) (most + 1) h),
    scaled (length g.acts) acts (most + 1),
  )

  returns_low : sizes (returns g) ≤ most * most
  returns_low = omega (
    arith,
    sizes_map (λ (w : ℕ). Wide Merges (leading g w)) most (range_with_len 0 g.waits) (λ w i. wide_size Merges (leading g w) most (omega (arith, acts, how_few (λ (y : Act). is_exit w y.exit) g.acts))),
    ap (λ (n : ℕ). n * most) (range_long 0 g.waits),
    scaled g.waits waits most,
  )

  opens_low : (s : Start) → sizes (first_wait s g) ≤ 1
  opens_low (start.Act n) = omega arith
  opens_low (start.Wait w) = by (has_entry g.start g.acts g.crosses)
    where
      by : (b : Bool) → size (One (if b then Iwires else Sources)) + 0 ≤ 1
      by true = omega (arith, one_size Iwires)
      by false = omega (arith, one_size Sources)

  meeting_size : (i : ℕ) → size (graph.meeting g (part_at g.waits (pairs g) i)) ≤ 3 * (most * (most * most))
  meeting_size i =
      let part : List (ℕ × ℕ) = part_at g.waits (pairs g) i in
      wait_size (length (part_rows g.waits part)) (length (part_columns (length g.bursts) part)) (local_part part)
      (omega (arith, waits, filter_low (has_row part) (range_with_len 0 g.waits), range_long 0 g.waits))
      (omega (arith, bursts, filter_low (has_column part) (range_with_len 0 (length g.bursts)), range_long 0 (length g.bursts)))
      (omega (arith, crosses, length-map part (local_crossing part), filter_low (λ (q : ℕ × ℕ). nat_eq (label g.waits (pairs g) q.0) i) (pairs g), length-map {B = ℕ × ℕ} g.crosses (λ (c : Cross). (c.wait, c.burst))))

  meetings_low : sizes (meetings g) ≤ most * (3 * (most * (most * most)))
  meetings_low = omega (
    arith,
    sizes_map (λ (i : ℕ). graph.meeting g (part_at g.waits (pairs g) i)) (3 * (most * (most * most))) (part_names g.waits (pairs g)) (λ i a. meeting_size i),
    scaled (length (part_names g.waits (pairs g))) (omega (arith, waits, filter_low (λ i. list_any (λ (q : ℕ × ℕ). nat_eq (label g.waits (pairs g) q.0) i) (pairs g)) (range_with_len 0 g.waits), range_long 0 g.waits)) (3 * (most * (most * most))),
  )

  toggles_low : (k : ℕ) → k ≤ most → sizes (map (λ (i : ℕ). One Toggles) (range_with_len 0 (k - 1))) ≤ most
  toggles_low k h = omega (arith, sizes_map (λ (i : ℕ). One Toggles) 1 (range_with_len 0 (k - 1)) (λ i a. one_size Toggles), range_long 0 (k - 1), h)

  style_low : sizes (of_style (style_of g) g names) ≤ most * (most + 1) + most * most + 1 + most * (3 * (most * (most * most)))
  style_low = by (nat_eq g.waits 1) (in_rounds g)
    where
      by : (b c : Bool) → sizes (of_style (if b then OneWait else (if c then Rounds g.waits else Token)) g names) ≤ most * (most + 1) + most * most + 1 + most * (3 * (most * (most * most)))
      by true c = omega (arith, sizes_both (spreads g) (directs g names), spreads_low, directs_low)
      by false true = omega (arith, sizes_both (spreads g) (map (λ (i : ℕ). One Toggles) (range_with_len 0 (g.waits - 1))), spreads_low, toggles_low g.waits waits)
      by false false = omega (
        arith,
        sizes_both (moves g) (returns g ++ (first_wait g.start g ++ meetings g)),
        sizes_both (returns g) (first_wait g.start g ++ meetings g),
        sizes_both (first_wait g.start g) (meetings g),
        moves_low,
        returns_low,
        opens_low g.start,
        meetings_low,
      )

  pub counted_low : sizes (counted g names) ≤ of_process
  counted_low = omega (
    arith,
    sizes_both (joins g) (calls g ++ (shows g names ++ (first_act g ++ of_style (style_of g) g names))),
    sizes_both (calls g) (shows g names ++ (first_act g ++ of_style (style_of g) g names)),
    sizes_both (shows g names) (first_act g ++ of_style (style_of g) g names),
    sizes_both (first_act g) (of_style (style_of g) g names),
    joins_low,
    calls_low,
    shows_low,
    first_low,
    style_low,
  )

processes_low : (out : ℕ → Bool) (ps : List Proc) (names : ℕ) → names ≤ most → Each (λ (p : Proc). (IsGrant p → ⊥) → Chart (legs p) out) ps → Each (λ (p : Proc). (IsGrant p → ⊥) → IsDrawable p) ps
    → sizes (processes ps names) ≤ length ps * of_process
processes_low out [] names few c d = omega arith
processes_low out (p ∷ ps) names few c d =
    omega (arith, sizes_both (if grants p then [] else counted (graph_of p) names) (processes ps names), by (grants p) refl, processes_low out ps names few c.1 d.1)
  where
    by : (b : Bool) → grants p ≡ b → sizes (if b then [] else counted (graph_of p) names) ≤ of_process
    by true e = omega arith
    by false e = counted_low p out (c.0 (no_grant p e)) (d.0 (no_grant p e)) names few

pub command_low : (c : Command) → Admitted c.procs → all_sorts (command_sum two_way_sum c.procs (length c.names)) < 2 ^ 64
command_low c a =
    let ps : List Proc = c.procs in
    let n : ℕ = length c.names in
    let some : length ps * of_process ≤ 256 * of_process = grown (length ps) of_process 256 of_process c.valid.few_procs (omega arith) in
    let rings : length ps * of_ring ≤ 256 * of_ring = grown (length ps) of_ring 256 of_ring c.valid.few_procs (omega arith) in
    let symbols : n * length ps ≤ 1024 * 256 = grown n (length ps) 1024 256 c.valid.few_symbols c.valid.few_procs in
    omega (
      arith,
      total_size (woven ps n ++ processes ps n),
      sizes_both (woven ps n) (processes ps n),
      woven_low ps n c.valid.shaped c.valid.few_places,
      processes_low (out_of ps) ps n (omega (arith, c.valid.few_symbols)) (charts ps a c.valid.shaped) (drawables ps a c.names c.valid),
      some,
      rings,
      symbols,
    )
