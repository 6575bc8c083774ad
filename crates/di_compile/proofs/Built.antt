-- What is promised of a network that was put in order.
use Rattle.std.proofs.Common.{◌≡◌, ◌⊎◌, inl, inr, ℕ, ◌+◌, ◌<◌, ◌^◌, Bool, true, false, IsTrue, List, [], ◌∷◌, length, Option, Some, None, Result, Ok, Err, IfOk, refl, sym, ap, ◌∙◌, subst, arith, if◌then◌else◌}
use Rattle.std.specs.Prelude.{drop, not}
use Rattle.std.specs.List.{AllByRecursion, sum_by, slice_get, slice_index_or}
use Rattle.std.proofs.lemmas.List.{length-map}
use Rattle.std.proofs.lemmas.List.Sums.{sum_by-cons}
use Rattle.std.proofs.lemmas.List.FromFn.{length-map-range_with_len}
use Rattle.cmd_tree.specs.declared.tree.Proc.{Proc}
use Rattle.cmd_tree.specs.declared.command.Command.{Command}
use Rattle.cmd_tree.specs.Limits.{marks_of_all}
use Rattle.basic_kinds.specs.Sorts.{Sort, how_many}
use Rattle.basic_kinds.specs.Sums.{Counted, wide_sum, total_of}
use Rattle.di_grammar.specs.Grants.{IsGrant}
use Rattle.di_grammar.specs.Admitted.{Admitted}
use Rattle.place_graph.specs.declared.styles.SplitStyle.{SplitStyle}
use Rattle.place_graph.specs.declared.styles.SplitStyle.TheVariants.{OneWait, Rounds, Token}
use Rattle.place_graph.specs.declared.wait_graph.WaitGraph.{WaitGraph}
use Rattle.place_graph.specs.Drawable.{IsDrawable}
use Rattle.place_graph.specs.Graph.{graph_of}
use Rattle.place_graph.specs.Style.{style_of}
use Rattle.place_graph.specs.Sums.{counted, processes}
use Rattle.place_graph.proofs.Admission.{drawables}
use Rattle.di_grammar.specs.Lists.{Each}
use Rattle.net_core.specs.declared.spec.NodeSpec.{NodeSpec}
use Rattle.net_core.specs.declared.spec.NodeSpec.TheVariants.{Cmd}
use Rattle.net_core.specs.Specs.{outs_of, gives_symbol}
use Rattle.net_core.specs.Wiring.{Circuit, Node}
use Rattle.net_core.specs.Networks.{directions_at, spec_of}
use Rattle.net_core.specs.Renumbering.{sum_of_parts}
use Rattle.net_laws.specs.Implementing.{Implements}
use Rattle.net_layers.specs.TwoWayNets.{is_two_way_part}
use Rattle.net_sums.specs.NodeSums.{IsSum, node_sum}
use Rattle.count_sum.specs.declared.counts.Basis.{Basis}
use Rattle.count_sum.specs.declared.counts.Basis.TheVariants.{Wide, Two}
use Rattle.plain_split.specs.OneWaitSums.{is_component}
use Rattle.plain_split.specs.PlainNet.{IsPlain, HasPlain, HasCounted}
use Rattle.token_split.specs.TokenNet.{HasToken}
use Rattle.token_split.proofs.TokenLaw.{token_admitted}
use Rattle.di_compile.specs.Compiling.{IsInBasis, IsInOrderOf, IsNetworkOf}
use Rattle.di_compile.specs.Mirror.InPlaces.{IsProcessNet, IsWholeNet}
use Rattle.di_compile.proofs.Alone.{no_grant, one_counted}

pub many_sum : (test : NodeSpec → Bool) (xs : List Node) → how_many (λ (x : Node). test x.spec) xs ≡ sum_by (λ (x : Node). if test x.spec then 1 else 0) xs
many_sum test [] = refl
many_sum test (x ∷ xs) = ap (λ n. (if test x.spec then 1 else 0) + n) (many_sum test xs) ∙ sym (sum_by-cons (λ (x : Node). if test x.spec then 1 else 0) x xs)

-- the directions of the environment are as many as the symbols
ports_many : (c : Command) (o : Option Node) → spec_of o ≡ Some (Cmd c) → length (directions_at 0 o) ≡ length c.names
ports_many c None e = absurd (cc)
ports_many c (Some x) e =
    let is : x.spec ≡ Cmd c = cc in
    length-map (outs_of x.spec) not ∙ ap (λ s. length (outs_of s)) is ∙ length-map-range_with_len (gives_symbol (marks_of_all c.procs)) 0 (length c.names)

-- what stands alone is the first
pub first_only : {A : Type 0} (xs : List A) (r x : A) → xs ≡ x ∷ [] → r ≡ slice_index_or xs 0 r → r ≡ x
first_only xs r x e is = is ∙ ap (λ ys. slice_index_or ys 0 r) e

pub if_all : {A E : Type 0} {P Q R S T : A → Type 0} (r : Result A E) → IfOk r P → IfOk r Q → IfOk r R → IfOk r S → ((x : A) → P x → Q x → R x → S x → T x) → IfOk r T
if_all (Ok x) p q r s f = f x p q r s
if_all (Err e) p q r s f = tt

pub if_then : {A E : Type 0} {P Q : A → Type 0} (r : Result A E) → ((x : A) → P x → Q x) → IfOk r P → IfOk r Q
if_then (Ok x) f p = f x p
if_then (Err e) f p = tt

-- a token is needed
pub token_style : (s : SplitStyle) (g h : WaitGraph) → s ≡ Token → s ≡ style_of g → g ≡ h → style_of h ≡ Token
token_style s g h e is same = sym (ap style_of same) ∙ sym is ∙ e

-- one wait, or rounds
pub plain_style : (s : SplitStyle) (g h : WaitGraph) → (s ≡ OneWait) ⊎ ((k : ℕ) × (s ≡ Rounds k)) → s ≡ style_of g → g ≡ h → IsPlain (style_of h)
plain_style s g h (inl e) is same = subst IsPlain (sym e ∙ is ∙ ap style_of same) tt
plain_style s g h (inr (k, e)) is same = subst IsPlain (sym e ∙ is ∙ ap style_of same) tt

module _ (c : Command) (p : Proc) (admitted : Admitted c.procs) (alone : c.procs ≡ p ∷ []) where
  pub has_plain : IsPlain (style_of (graph_of p)) → HasPlain c p
  has_plain plain = record { alone = alone; admitted = admitted; other = no_grant c.procs p admitted alone; plain = plain }

  pub has_token : style_of (graph_of p) ≡ Token → HasToken c p
  has_token style = token_admitted c p (record { alone = alone; admitted = admitted; other = no_grant c.procs p admitted alone; style = style })

  pub is_drawable : IsDrawable p
  is_drawable = (subst (Each (λ p. (IsGrant p → ⊥) → IsDrawable p)) alone (drawables c.procs admitted c.names c.valid)).0 (no_grant c.procs p admitted alone)

  abbrev pub HasSums : Circuit → Type 0
  HasSums n = (sum : Counted → Sort → ℕ) → IsSum sum → (s : Sort) → sum_of_parts (node_sum sum s) n ≡ total_of sum (counted (graph_of p) (length c.names)) s

  pub process_net : (n : Circuit) → Implements n (Cmd c) → n.wires < 2 ^ 20 → HasCounted c p n → HasSums n → IsProcessNet c n
  process_net n right few kinds sums = record {
    right = right;
    few = few;
    numbers = λ s. kinds s ∙ by wide_sum s;
    sums = λ sum w s. sums sum w s ∙ by sum s;
  }
    where
      by : (sum : Counted → Sort → ℕ) (s : Sort) → total_of sum (counted (graph_of p) (length c.names)) s ≡ total_of sum (processes c.procs (length c.names)) s
      by sum s = sym (one_counted sum p (length c.names) s (no_grant c.procs p admitted alone)) ∙ ap (λ ps. total_of sum (processes ps (length c.names)) s) (sym alone)

-- ---- in walk order

-- as many components pass a test, and so all of them do
none_fail : (test : NodeSpec → Bool) (xs : List Node) → AllByRecursion (λ x. IsTrue (test x.spec)) xs → sum_by (λ (x : Node). if test x.spec then 0 else 1) xs ≡ 0
none_fail test [] h = refl
none_fail test (x ∷ xs) h = omega (arith, ap {B = ℕ} (λ (b : Bool). if b then 0 else 1) h.0, none_fail test xs h.1, sum_by-cons (λ (x : Node). if test x.spec then 0 else 1) x xs)

all_pass : (test : NodeSpec → Bool) (xs : List Node) → sum_by (λ (x : Node). if test x.spec then 0 else 1) xs ≡ 0 → AllByRecursion (λ x. IsTrue (test x.spec)) xs
all_pass test [] h = tt
all_pass test (x ∷ xs) h =
    let split = sum_by-cons (λ (x : Node). if test x.spec then 0 else 1) x xs in
    (by (test x.spec) (omega (arith, h, split)), all_pass test xs (omega (arith, h, split)))
  where
    by : (b : Bool) → ◌≡◌ {A = ℕ} (if b then 0 else 1) 0 → b ≡ true
    by true e = refl
    by false e = absurd (omega (arith, e))

module _ (basis : Basis) (c : Command) (n : Circuit) (whole : IsWholeNet basis c n) where
  still_in : (b : Basis) → IsInBasis b n → (d : Circuit) → IsInOrderOf n d → IsInBasis b d
  still_in Wide h d o = o.preserved.basic h
  still_in Two h d o = all_pass is_two_way_part (drop 1 d.nodes) (o.preserved.parts (λ x. if is_two_way_part x then 0 else 1) ∙ none_fail is_two_way_part (drop 1 n.nodes) h)

  pub network_of : (d : Circuit) → IsInOrderOf n d → IsNetworkOf basis c d
  network_of d o = record {
    basic = o.preserved.basic whole.right.basic;
    in_basis = still_in basis whole.in_basis d o;
    correct = o.preserved.correct (Cmd c) whole.right.correct;
    in_order = o.in_order;
    sums = λ s.
        many_sum (is_component s) (drop 1 d.nodes) ∙ o.preserved.parts (λ x. if is_component s x then 1 else 0) ∙ sym (many_sum (is_component s) (drop 1 n.nodes))
        ∙ whole.sums s;
    ports = λ i low. o.outside (λ w less through. whole.right.clean w less (through.0 ∙ sym through.1)) i (omega (arith, low, ports_many c (slice_get n.nodes 0) whole.right.correct.specified));
    few = omega (arith, whole.few, o.wires);
  }
