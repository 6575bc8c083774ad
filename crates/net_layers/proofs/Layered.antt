-- The layers in their places: what the network keeps, and that its components become lighter.
use Rattle.std.proofs.Common.{◌≡◌, ℕ, zero, suc, ◌+◌, ◌-◌, ◌*◌, ◌<◌, ◌≤◌, ◌^◌, Bool, true, false, true≢false, nat_lt, IsTrue, is_some, List, [], ◌∷◌, ◌++◌, length, map, take, Option, Some, None, slice_get, get_or, refl, sym, ap, ◌∙◌, subst, arith, if◌then◌else◌}
use Rattle.std.specs.Prelude.{drop, ◌||◌}
use Rattle.std.specs.List.{AllByRecursion, sum_by, list_any}
use Rattle.std.proofs.lemmas.Bool.{cases_Bool}
use Rattle.std.proofs.lemmas.Bool.Decides.{nat_tests}
use Rattle.std.proofs.lemmas.List.Sums.{sum_by-cons}
use Rattle.std.proofs.lemmas.Option.{slice_get-get_or}
use Rattle.basic_kinds.specs.declared.kind.Kind.{Kind}
use Rattle.basic_kinds.specs.Sorts.{Sort, Wires, Iwires, Sources, Sinks, Forks, Joins, Merges, Toggles, Waits, Sequencers, how_many}
use Rattle.net_core.specs.declared.spec.NodeSpec.{NodeSpec}
use Rattle.net_core.specs.declared.spec.NodeSpec.TheVariants.{Kind as Basic, Cmd}
use Rattle.net_core.specs.Specs.{is_kind, outs_of, IsFormed}
use Rattle.net_core.specs.Wiring.{Node, Circuit, IsWired, IsNetwork}
use Rattle.net_core.specs.Networks.{IsClean, Correct}
use Rattle.net_core.specs.Renumbering.{sum_of_parts}
use Rattle.net_laws.specs.Implementing.{Implements}
use Rattle.net_laws.proofs.Among.{all_map}
use Rattle.net_laws.proofs.Rows.{all_both}
use Rattle.plain_split.specs.OneWaitSums.{is_component}
use Rattle.substitute.specs.Splices.{FitEach, wires_in, EachPart, Serves, ServeEach, specs_in, specs_after, PassIn, PassAfter, sum_after}
use Rattle.substitute.proofs.Turns.{each_fits}
use Rattle.two_way.specs.TwoWay.{is_two_way, weight}
use Rattle.two_way.specs.Layers.{two_way_part, IsLighter, IsLayerOf}
use Rattle.net_layers.specs.TwoWayNets.{is_two_way_part, is_splittable, two_way_parts, IsSplittable, IsSplitTo}
use Rattle.net_layers.specs.Mirror.Laid.{IsLaid, IsLaidFor, AreLaid, weight_of, greater, heaviest, IsLayered}
use Rattle.net_layers.proofs.KindSums.{alone, heavy, light}
use Rattle.net_layers.proofs.FewWires.{wires_few}

-- ---- one layer

pub none_here : (k : Kind) → IsLaid k None → is_two_way k ≡ true
none_here k i = i.split.none.0 refl

some_here : (k : Kind) (m : Circuit) → IsLaid k (Some m) → is_two_way k ≡ false
some_here k m i = by (is_two_way k) refl
  where
    by : (b : Bool) → is_two_way k ≡ b → is_two_way k ≡ false
    by true e = let z : ◌≡◌ {A = Option Circuit} (Some m) None = i.split.none.1 e in absurd (cc)
    by false e = e

layer_of : (k : Kind) (m : Circuit) → IsLaid k (Some m) → IsLayerOf k m
layer_of k m i = i.split.layer

-- ---- all of them

as_many : (xs : List Node) (ps : List (Option Circuit)) → AreLaid xs ps → length ps ≡ length xs
as_many [] [] h = refl
as_many [] (p ∷ ps) h = absurd h
as_many (x ∷ xs) [] h = absurd h
as_many (x ∷ xs) (p ∷ ps) h = omega (arith, as_many xs ps h.1)

serve_each : (xs : List Node) (ps : List (Option Circuit)) → AreLaid xs ps → ServeEach xs ps
serve_each [] [] h = tt
serve_each [] (p ∷ ps) h = absurd h
serve_each (x ∷ xs) [] h = absurd h
serve_each (x ∷ xs) (None ∷ ps) h = serve_each xs ps h.1
serve_each (x ∷ xs) (Some m ∷ ps) h = (by x.spec h.0, serve_each xs ps h.1)
  where
    by : (s : NodeSpec) → IsLaidFor s (Some m) → Serves s m
    by (Basic k) i = let r = (layer_of k m i).right in record { network = r.correct.network; closed = r.correct.closed; clean = r.clean; specified = r.correct.specified }
    by (Cmd d) i = absurd i

-- what holds of each layer of a kind holds of each part
each_layer : (P : Circuit → Type 0) → ((k : Kind) (m : Circuit) → IsLaid k (Some m) → P m) → (xs : List Node) (ps : List (Option Circuit)) → AreLaid xs ps → EachPart P ps
each_layer P f [] [] h = tt
each_layer P f [] (p ∷ ps) h = absurd h
each_layer P f (x ∷ xs) [] h = absurd h
each_layer P f (x ∷ xs) (None ∷ ps) h = (tt, each_layer P f xs ps h.1)
each_layer P f (x ∷ xs) (Some m ∷ ps) h = (by x.spec h.0, each_layer P f xs ps h.1)
  where
    by : (s : NodeSpec) → IsLaidFor s (Some m) → P m
    by (Basic k) i = f k m i
    by (Cmd d) i = absurd i

-- what holds of the components that stay, and of those of each layer, holds of all
pass_after : (test : NodeSpec → Bool) → ((k : Kind) (m : Circuit) → IsLaid k (Some m) → PassIn test m) → (xs : List Node) (ps : List (Option Circuit)) → AreLaid xs ps
    → AllByRecursion (λ x. IsTrue (test x.spec)) xs → PassAfter test xs ps
pass_after test f [] [] h all = tt
pass_after test f [] (p ∷ ps) h all = absurd h
pass_after test f (x ∷ xs) [] h all = absurd h
pass_after test f (x ∷ xs) (None ∷ ps) h all = (all.0, pass_after test f xs ps h.1 all.1)
pass_after test f (x ∷ xs) (Some m ∷ ps) h all = (by x.spec h.0, pass_after test f xs ps h.1 all.1)
  where
    by : (s : NodeSpec) → IsLaidFor s (Some m) → PassIn test m
    by (Basic k) i = f k m i
    by (Cmd d) i = absurd i

sums_after : (s : Sort) (xs : List Node) (ps : List (Option Circuit)) → AreLaid xs ps → sum_after (two_way_part s) xs ps ≡ sum_by (λ (x : Node). two_way_part s x.spec) xs
sums_after s [] [] h = refl
sums_after s [] (p ∷ ps) h = absurd h
sums_after s (x ∷ xs) [] h = absurd h
sums_after s (x ∷ xs) (None ∷ ps) h = ap (λ n. two_way_part s x.spec + n) (sums_after s xs ps h.1) ∙ sym (sum_by-cons (λ (x : Node). two_way_part s x.spec) x xs)
sums_after s (x ∷ xs) (Some m ∷ ps) h = omega (arith, by x.spec h.0, sums_after s xs ps h.1, sum_by-cons (λ (x : Node). two_way_part s x.spec) x xs)
  where
    by : (y : NodeSpec) → IsLaidFor y (Some m) → sum_of_parts (two_way_part s) m ≡ two_way_part s y
    by (Basic k) i = (layer_of k m i).sums s
    by (Cmd d) i = absurd i

wires_after : (xs : List Node) (ps : List (Option Circuit)) → AreLaid xs ps → wires_in ps ≤ 4 * sum_by (λ (x : Node). two_way_parts x.spec) xs
wires_after [] [] h = omega arith
wires_after [] (p ∷ ps) h = absurd h
wires_after (x ∷ xs) [] h = absurd h
wires_after (x ∷ xs) (None ∷ ps) h = omega (arith, wires_after xs ps h.1, sum_by-cons (λ (x : Node). two_way_parts x.spec) x xs)
wires_after (x ∷ xs) (Some m ∷ ps) h = omega (arith, by x.spec h.0, wires_after xs ps h.1, sum_by-cons (λ (x : Node). two_way_parts x.spec) x xs)
  where
    by : (y : NodeSpec) → IsLaidFor y (Some m) → m.wires ≤ 4 * two_way_parts y
    by (Basic k) i = i.few
    by (Cmd d) i = absurd i

all_two_way : (xs : List Node) (ps : List (Option Circuit)) → AreLaid xs ps → list_any is_some ps ≡ false → AllByRecursion (λ x. IsTrue (is_two_way_part x.spec)) xs
all_two_way [] [] h e = tt
all_two_way [] (p ∷ ps) h e = absurd h
all_two_way (x ∷ xs) [] h e = absurd h
all_two_way (x ∷ xs) (None ∷ ps) h e = (by x.spec h.0, all_two_way xs ps h.1 e)
  where
    by : (y : NodeSpec) → IsLaidFor y None → IsTrue (is_two_way_part y)
    by (Basic k) i = none_here k i
    by (Cmd d) i = absurd i
all_two_way (x ∷ xs) (Some m ∷ ps) h e = absurd (true≢false e)

-- ---- weights

greater_first : (a b : ℕ) → a ≤ greater a b
greater_first a b = grind (arith, nat_tests)

greater_second : (a b : ℕ) → b ≤ greater a b
greater_second a b = grind (arith, nat_tests)

greater_low : (a b m : ℕ) → a < m → b < m → greater a b < m
greater_low a b m p q = grind (arith, nat_tests)

all_up : (most : ℕ) (ys : List NodeSpec) → heaviest ys ≤ most → AllByRecursion (λ y. weight_of y ≤ most) ys
all_up most [] h = tt
all_up most (y ∷ ys) h = (omega (arith, h, greater_first (weight_of y) (heaviest ys)), all_up most ys (omega (arith, h, greater_second (weight_of y) (heaviest ys))))

below_all : (most : ℕ) (ys : List NodeSpec) → 0 < most → AllByRecursion (λ y. weight_of y < most) ys → heaviest ys < most
below_all most [] some h = some
below_all most (y ∷ ys) some h = greater_low (weight_of y) (heaviest ys) most h.0 (below_all most ys some h.1)

all_weaker : {A : Type 0} (P Q : A → Type 0) → ((x : A) → P x → Q x) → (xs : List A) → AllByRecursion P xs → AllByRecursion Q xs
all_weaker P Q f [] h = tt
all_weaker P Q f (x ∷ xs) h = (f x h.0, all_weaker P Q f xs h.1)

lighter_parts : (most : ℕ) (k : Kind) (m : Circuit) → IsLaid k (Some m) → weight k ≤ most → AllByRecursion (λ y. weight_of y < most) (specs_in m)
lighter_parts most k m i low = all_map (λ y. weight_of y < most) (λ (x : Node). x.spec) (drop 1 m.nodes)
    (all_weaker (λ (x : Node). IsLighter k x.spec) (λ (x : Node). weight_of x.spec < most) (λ x. by x.spec) (drop 1 m.nodes) (layer_of k m i).lighter)
  where
    by : (y : NodeSpec) → IsLighter k y → weight_of y < most
    by (Basic j) h = omega (arith, h, low)
    by (Cmd d) h = absurd h

lighter_after : (most : ℕ) → 0 < most → (xs : List Node) (ps : List (Option Circuit)) → AreLaid xs ps → AllByRecursion (λ y. weight_of y ≤ most) (map (λ (x : Node). x.spec) xs)
    → AllByRecursion (λ y. weight_of y < most) (specs_after xs ps)
lighter_after most some [] [] h all = tt
lighter_after most some [] (p ∷ ps) h all = absurd h
lighter_after most some (x ∷ xs) [] h all = absurd h
lighter_after most some (x ∷ xs) (None ∷ ps) h all = (by x.spec h.0, lighter_after most some xs ps h.1 all.1)
  where
    by : (y : NodeSpec) → IsLaidFor y None → weight_of y < most
    by (Basic k) i = omega (arith, some, light k (none_here k i))
    by (Cmd d) i = absurd i
lighter_after most some (x ∷ xs) (Some m ∷ ps) h all =
    all_both (λ y. weight_of y < most) (specs_in m) (specs_after xs ps) (by x.spec h.0 all.0) (lighter_after most some xs ps h.1 all.1)
  where
    by : (y : NodeSpec) → IsLaidFor y (Some m) → weight_of y ≤ most → AllByRecursion (λ y. weight_of y < most) (specs_in m)
    by (Basic k) i low = lighter_parts most k m i low
    by (Cmd d) i low = absurd i

some_heavy : (n : ℕ) (xs : List Node) (ps : List (Option Circuit)) → AreLaid xs ps → AllByRecursion (IsWired n) xs → list_any is_some ps ≡ true → 0 < heaviest (map (λ (x : Node). x.spec) xs)
some_heavy n [] [] h wired e = absurd (true≢false (sym e))
some_heavy n [] (p ∷ ps) h wired e = absurd h
some_heavy n (x ∷ xs) [] h wired e = absurd h
some_heavy n (x ∷ xs) (None ∷ ps) h wired e = omega (arith, some_heavy n xs ps h.1 wired.1 e, greater_second (weight_of x.spec) (heaviest (map (λ (x : Node). x.spec) xs)))
some_heavy n (x ∷ xs) (Some m ∷ ps) h wired e = omega (arith, by x h.0 wired.0, greater_first (weight_of x.spec) (heaviest (map (λ (x : Node). x.spec) xs)))
  where
    at : (y : NodeSpec) → IsLaidFor y (Some m) → IsFormed y → 0 < weight_of y
    at (Basic k) i formed = heavy k formed (some_here k m i)
    at (Cmd d) i formed = absurd i

    by : (x : Node) → IsLaidFor x.spec (Some m) → IsWired n x → 0 < weight_of x.spec
    by x i w = at x.spec i w.formed

-- ---- one more

lay_next : (xs : List Node) (n : ℕ) (x : Node) (ps : List (Option Circuit)) (p : Option Circuit) → slice_get xs n ≡ Some x
    → AreLaid (take n xs) ps → IsLaidFor x.spec p → AreLaid (take (suc n) xs) (ps ++ p ∷ [])
lay_next [] n x ps p e h i = absurd (cc)
lay_next (y ∷ xs) zero x [] p e h i = let same : x ≡ y = cc in (subst (λ (z : Node). IsLaidFor z.spec p) same i, tt)
lay_next (y ∷ xs) zero x (q ∷ ps) p e h i = absurd h
lay_next (y ∷ xs) (suc n) x [] p e h i = absurd h
lay_next (y ∷ xs) (suc n) x (q ∷ ps) p e h i = (h.0, lay_next xs n x ps p e h.1 i)

pub laid_next : (xs : List Node) (n : ℕ) (x : Node) (ps : List (Option Circuit)) (p : Option Circuit) → 1 ≤ n → slice_get xs n ≡ Some x
    → AreLaid (take (n - 1) (drop 1 xs)) ps → IsLaidFor x.spec p → AreLaid (take (n + 1 - 1) (drop 1 xs)) (ps ++ p ∷ [])
laid_next [] n x ps p l e h i = absurd (cc)
laid_next (y ∷ xs) zero x ps p l e h i = absurd (omega (arith, l))
laid_next (y ∷ xs) (suc n) x ps p l e h i =
    let down : suc n - 1 ≡ n = omega arith in
    let up : suc n + 1 - 1 ≡ suc n = omega arith in
    subst (λ k. AreLaid (take k xs) (ps ++ p ∷ [])) (sym up) (lay_next xs n x ps p e (subst (λ k. AreLaid (take k xs) ps) down h) i)

pub node_at : (xs : List Node) (n : ℕ) (x : Node) → n < length xs → x ≡ get_or xs n x → slice_get xs n ≡ Some x
node_at xs n x l e = slice_get-get_or xs n x l ∙ ap Some (sym e)

-- ---- the sum of all sorts

pub parts_sum : (xs : List Node) → sum_by (λ (x : Node). two_way_parts x.spec) xs
    ≡ sum_by (λ (x : Node). two_way_part Wires x.spec) xs + sum_by (λ (x : Node). two_way_part Iwires x.spec) xs + sum_by (λ (x : Node). two_way_part Sources x.spec) xs
    + sum_by (λ (x : Node). two_way_part Sinks x.spec) xs + sum_by (λ (x : Node). two_way_part Forks x.spec) xs + sum_by (λ (x : Node). two_way_part Joins x.spec) xs
    + sum_by (λ (x : Node). two_way_part Merges x.spec) xs + sum_by (λ (x : Node). two_way_part Toggles x.spec) xs + sum_by (λ (x : Node). two_way_part Waits x.spec) xs
    + sum_by (λ (x : Node). two_way_part Sequencers x.spec) xs
parts_sum [] = refl
parts_sum (x ∷ xs) = omega (
  arith,
  parts_sum xs,
  sum_by-cons (λ (x : Node). two_way_parts x.spec) x xs,
  sum_by-cons (λ (x : Node). two_way_part Wires x.spec) x xs,
  sum_by-cons (λ (x : Node). two_way_part Iwires x.spec) x xs,
  sum_by-cons (λ (x : Node). two_way_part Sources x.spec) x xs,
  sum_by-cons (λ (x : Node). two_way_part Sinks x.spec) x xs,
  sum_by-cons (λ (x : Node). two_way_part Forks x.spec) x xs,
  sum_by-cons (λ (x : Node). two_way_part Joins x.spec) x xs,
  sum_by-cons (λ (x : Node). two_way_part Merges x.spec) x xs,
  sum_by-cons (λ (x : Node). two_way_part Toggles x.spec) x xs,
  sum_by-cons (λ (x : Node). two_way_part Waits x.spec) x xs,
  sum_by-cons (λ (x : Node). two_way_part Sequencers x.spec) x xs,
)

-- ---- a splittable network

pub split_self : (c : Circuit) → IsSplittable c → IsSplitTo c c
split_self c h = record { right = λ s i. i; parts = h.parts; sums = λ s. refl }

pub split_on : (c d e : Circuit) → IsSplitTo c d → IsSplitTo d e → IsSplitTo c e
split_on c d e p q = record { right = λ s i. q.right s (p.right s i); parts = q.parts; sums = λ s. q.sums s ∙ p.sums s }

pub still_splittable : (c d : Circuit) → IsSplittable c → IsSplitTo c d → IsSplittable d
still_splittable c d h t = record {
  spec = h.spec;
  right = t.right h.spec h.right;
  ports = h.ports;
  parts = t.parts;
  few = omega (
    arith,
    h.few,
    parts_sum (drop 1 c.nodes),
    parts_sum (drop 1 d.nodes),
    t.sums Wires,
    t.sums Iwires,
    t.sums Sources,
    t.sums Sinks,
    t.sums Forks,
    t.sums Joins,
    t.sums Merges,
    t.sums Toggles,
    t.sums Waits,
    t.sums Sequencers,
  );
}

pub splittable_few : (c : Circuit) → IsSplittable c → c.wires < 2 ^ 29
splittable_few c h = omega (arith, h.ports, h.few, wires_few c h.spec h.right.correct.network h.right.correct.closed h.right.correct.specified h.parts)

-- two-way components stand for themselves
pub numbers_are : (n : ℕ) (s : Sort) (xs : List Node) → AllByRecursion (IsWired n) xs → AllByRecursion (λ x. IsTrue (is_two_way_part x.spec)) xs
    → how_many (λ (x : Node). is_component s x.spec) xs ≡ sum_by (λ (x : Node). two_way_part s x.spec) xs
numbers_are n s [] wired all = refl
numbers_are n s (x ∷ xs) wired all = omega (arith, by x.spec (wired.0).formed all.0, numbers_are n s xs wired.1 all.1, sum_by-cons (λ (x : Node). two_way_part s x.spec) x xs)
  where
    by : (y : NodeSpec) → IsFormed y → is_two_way_part y ≡ true → two_way_part s y ≡ (if is_component s y then 1 else 0)
    by (Basic k) formed h = alone k formed h s
    by (Cmd d) formed h = absurd (true≢false (sym h))

wired_rest : (n : ℕ) (xs : List Node) → AllByRecursion (IsWired n) xs → AllByRecursion (IsWired n) (drop 1 xs)
wired_rest n [] h = tt
wired_rest n (x ∷ xs) h = h.1

pub numbers_in : (c d : Circuit) → IsSplitTo c d → IsSplittable d → PassIn is_two_way_part d → (s : Sort) → how_many (λ (x : Node). is_component s x.spec) (drop 1 d.nodes) ≡ sum_of_parts (two_way_part s) c
numbers_in c d t h two s = numbers_are d.wires s (drop 1 d.nodes) (wired_rest d.wires d.nodes h.right.correct.network.wired) two ∙ t.sums s

-- ---- one pass

module _ (c : Circuit) (h : IsSplittable c) (ps : List (Option Circuit)) (laid : AreLaid (drop 1 c.nodes) ps) where
  pub sized : length ps + 1 ≡ length c.nodes
  sized = by c.nodes h.right.correct.network.some (as_many (drop 1 c.nodes) ps laid)
    where
      by : (xs : List Node) → 0 < length xs → length ps ≡ length (drop 1 xs) → length ps + 1 ≡ length xs
      by [] l e = absurd (omega (arith, l))
      by (x ∷ xs) l e = omega (arith, e)

  pub fitting : FitEach c 1 ps
  fitting = each_fits c ps h.right.correct.network h.right.correct.closed h.right.clean (serve_each (drop 1 c.nodes) ps laid)

  pub few : c.wires + wires_in ps < 2 ^ 31
  few = omega (arith, splittable_few c h, h.few, wires_after (drop 1 c.nodes) ps laid)

  pub stays : list_any is_some ps ≡ false → IsLayered c None
  stays e = all_two_way (drop 1 c.nodes) ps laid e

  module _ (d : Circuit)
      (clean : IsClean c → EachPart IsClean ps → IsClean d)
      (correct : (s : NodeSpec) → Correct c s → EachPart (λ m. (t : NodeSpec) × Correct m t) ps → Correct d s)
      (components : specs_in d ≡ specs_after (drop 1 c.nodes) ps)
      (passing : (test : NodeSpec → Bool) → PassAfter test (drop 1 c.nodes) ps → PassIn test d)
      (sums : (f : NodeSpec → ℕ) → sum_of_parts f d ≡ sum_after f (drop 1 c.nodes) ps) where
    split : IsSplitTo c d
    split = record {
      right = λ s i. record {
        basic = passing is_kind (pass_after is_kind (λ k m l. (layer_of k m l).right.basic) (drop 1 c.nodes) ps laid i.basic);
        clean = clean i.clean (each_layer IsClean (λ k m l. (layer_of k m l).right.clean) (drop 1 c.nodes) ps laid);
        correct = correct s i.correct (each_layer (λ m. (t : NodeSpec) × Correct m t) (λ k m l. (Basic k, (layer_of k m l).right.correct)) (drop 1 c.nodes) ps laid);
      };
      parts = passing is_splittable (pass_after is_splittable (λ k m l. l.parts) (drop 1 c.nodes) ps laid h.parts);
      sums = λ s. sums (two_way_part s) ∙ sums_after s (drop 1 c.nodes) ps laid;
    }

    pub made : list_any is_some ps ≡ true → IsLayered c (Some d)
    made e =
        let most : ℕ = heaviest (specs_in c) in
        let some : 0 < most = some_heavy c.wires (drop 1 c.nodes) ps laid (wired_rest c.wires c.nodes h.right.correct.network.wired) e in
        let after : AllByRecursion (λ y. weight_of y < most) (specs_after (drop 1 c.nodes) ps) = lighter_after most some (drop 1 c.nodes) ps laid (all_up most (specs_in c) (omega arith)) in
        (split, below_all most (specs_in d) some (subst (AllByRecursion (λ y. weight_of y < most)) (sym components) after))
