-- An admitted command of one process that needs no token has one wait or is in rounds.
use Rattle.std.specs.Prelude.{IfOk}
use Rattle.std.proofs.Common.{Result, Ok, Err, ◌≡◌, ◌<◌, ◌^◌, ℕ, Bool, true, false, nat_eq, List, [], ◌∷◌, drop, length, true≢false, eq-eqb, ne_eqb, refl, sym, ap, subst, ◌∙◌, if◌then◌else◌}
use Rattle.cmd_tree.specs.declared.tree.Proc.{Proc}
use Rattle.cmd_tree.specs.declared.command.Command.{Command}
use Rattle.di_grammar.specs.Admitted.{Admitted}
use Rattle.di_grammar.specs.Grants.{IsGrant}
use Rattle.place_graph.specs.declared.wait_graph.WaitGraph.{WaitGraph}
use Rattle.place_graph.specs.declared.styles.SplitStyle.{SplitStyle}
use Rattle.place_graph.specs.declared.styles.SplitStyle.TheVariants.{OneWait, Rounds, Token}
use Rattle.basic_kinds.specs.Sums.{wide_sum, total_of}
use Rattle.place_graph.specs.Sums.{counted}
use Rattle.place_graph.specs.Graph.{graph_of}
use Rattle.place_graph.specs.Style.{in_rounds, style_of}
use Rattle.net_core.specs.Wiring.{Circuit, Node}
use Rattle.net_core.specs.declared.spec.NodeSpec.TheVariants.{Cmd}
use Rattle.net_laws.specs.Implementing.{Implements}
use Rattle.plain_split.specs.OneWaitSums.{Sort, is_component, how_many}
use Rattle.plain_split.specs.OneWaitCommands.{HasOneWait, links_of, one_wait_net}
use Rattle.plain_split.specs.RoundsNet.{pow}
use Rattle.plain_split.specs.RoundsCommands.{HasRounds, round_parts, rounds_net}
use Rattle.plain_split.specs.PlainNet.{IsPlain, HasPlain, IsNetIn, IsPlainNet}
use Rattle.plain_split.proofs.SharedAdmitted.{alone_fair, alone_directions, alone_sets}
use Rattle.plain_split.proofs.OneWaitLaw.{one_command_right, one_command_wires, command_counted}
use Rattle.plain_split.proofs.OneWaitKinds.{one_wait_kinds}
use Rattle.plain_split.proofs.RoundsStyle.{in_power}
use Rattle.plain_split.proofs.RoundsCommand.{style_rounds, rounds_command_right, rounds_command_wires, rounds_command_counted}
use Rattle.plain_split.proofs.RoundsKinds.{rounds_kinds}

module _ (c : Command) (p : Proc) (alone : c.procs ≡ p ∷ []) (admitted : Admitted c.procs) (other : IsGrant p → ⊥) where
  pub one_wait_admitted : style_of (graph_of p) ≡ OneWait → HasOneWait c p
  one_wait_admitted style = record {
    alone = alone;
    fair = alone_fair c p alone admitted other;
    directions = alone_directions c p alone admitted other;
    sets = alone_sets c p alone admitted other;
    style = style;
  }

  pub rounds_admitted : (k : ℕ) → style_of (graph_of p) ≡ Rounds k → (e : ℕ) × (k ≡ pow e) × HasRounds c p e
  rounds_admitted k style =
      let (not_one, rounds, many) = style_rounds (graph_of p) k style in
      let (e, power) = in_power (graph_of p) rounds in
      let is : k ≡ pow e = sym many ∙ power in (
        e,
        is,
        record {
          alone = alone;
          fair = alone_fair c p alone admitted other;
          directions = alone_directions c p alone admitted other;
          sets = alone_sets c p alone admitted other;
          style = style ∙ ap Rounds is;
        },
      )

-- what holds of both networks holds of the one of the style
by_style : (c : Command) (p : Proc) (P : Circuit → Type 0) → HasPlain c p → (HasOneWait c p → P (one_wait_net c p)) → ((e : ℕ) → HasRounds c p e → P (rounds_net c p e))
    → (net : Circuit) → IsPlainNet c p net → P net
by_style c p P h one rounds net is = at (style_of (graph_of p)) refl is
  where
    at : (s : SplitStyle) → style_of (graph_of p) ≡ s → IsNetIn s c p net → P net
    at OneWait e i = subst P (sym i) (one (one_wait_admitted c p h.alone h.admitted h.other e))
    at (Rounds k) e (d, q, i) =
        let (b, r, has) = rounds_admitted c p h.alone h.admitted h.other k e in
        subst P (sym i) (rounds d (record { alone = has.alone; fair = has.fair; directions = has.directions; sets = has.sets; style = e ∙ ap Rounds q }))
    at Token e i = absurd i

module _ (c : Command) (p : Proc) (net : Circuit) (h : HasPlain c p) (is : IsPlainNet c p net) where
  pub plain_right : Implements net (Cmd c)
  plain_right = by_style c p (λ n. Implements n (Cmd c)) h (one_command_right c p) (rounds_command_right c p) net is

  pub plain_wires : net.wires < 2 ^ 20
  plain_wires = by_style c p (λ n. n.wires < 2 ^ 20) h (one_command_wires c p) (rounds_command_wires c p) net is

  pub plain_kinds : (k : Sort) → how_many (λ (x : Node). is_component k x.spec) (drop 1 net.nodes) ≡ total_of wide_sum (counted (graph_of p) (length c.names)) k
  plain_kinds k = by_style c p (λ n. how_many (λ (x : Node). is_component k x.spec) (drop 1 n.nodes) ≡ total_of wide_sum (counted (graph_of p) (length c.names)) k) h
      (λ one. one_wait_kinds (Cmd c) (links_of c p) k ∙ command_counted c p one k)
      (λ e rounds. rounds_kinds (round_parts c p e) k ∙ rounds_command_counted c p e rounds k) net is

-- ---- the style by the number of waits

pub one_style : (g : WaitGraph) → g.waits ≡ 1 → style_of g ≡ OneWait
one_style g e = ap (λ b. if b then OneWait else (if in_rounds g then Rounds g.waits else Token)) (eq-eqb g.waits 1 e)

pub more_style : (g : WaitGraph) → (g.waits ≡ 1 → ⊥) → IsPlain (style_of g) → style_of g ≡ Rounds g.waits
more_style g ne plain = by (nat_eq g.waits 1) (ne_eqb g.waits 1 ne) (in_rounds g) plain
  where
    by : (b : Bool) → b ≡ false → (i : Bool) → IsPlain (if b then OneWait else (if i then Rounds g.waits else Token)) → (if b then OneWait else (if i then Rounds g.waits else Token)) ≡ Rounds g.waits
    by true e i h = absurd (true≢false e)
    by false e true h = refl
    by false e false h = absurd h

pub one_is_plain : (c : Command) (p : Proc) (net : Circuit) → style_of (graph_of p) ≡ OneWait → net ≡ one_wait_net c p → IsPlainNet c p net
one_is_plain c p net style is = subst (λ s. IsNetIn s c p net) (sym style) is

pub rounds_are_plain : (c : Command) (p : Proc) (net : Circuit) (k e : ℕ) → style_of (graph_of p) ≡ Rounds k → k ≡ pow e → net ≡ rounds_net c p e → IsPlainNet c p net
rounds_are_plain c p net k e style q is = subst (λ s. IsNetIn s c p net) (sym style) (e, q, is)

pub if_ok : {A E : Type 0} (P Q : A → Type 0) → ((a : A) → P a → Q a) → (r : Result A E) → IfOk r P → IfOk r Q
if_ok P Q f (Ok a) h = f a h
if_ok P Q f (Err e) h = h

-- ---- what the code of each style gives

module _ (c : Command) (p : Proc) (h : HasPlain c p) (g : WaitGraph) (is : g ≡ graph_of p) where
  style_here : (s : SplitStyle) → style_of g ≡ s → style_of (graph_of p) ≡ s
  style_here s e = ap style_of (sym is) ∙ e

  pub has_one : g.waits ≡ 1 → HasOneWait c p
  has_one e = one_wait_admitted c p h.alone h.admitted h.other (style_here OneWait (one_style g e))

  more_here : (g.waits ≡ 1 → ⊥) → style_of (graph_of p) ≡ Rounds g.waits
  more_here ne = style_here (Rounds g.waits) (more_style g ne (subst (λ (d : WaitGraph). IsPlain (style_of d)) (sym is) h.plain))

  pub has_rounds : (g.waits ≡ 1 → ⊥) → (e : ℕ) × (g.waits ≡ pow e) × HasRounds c p e
  has_rounds ne = rounds_admitted c p h.alone h.admitted h.other g.waits (more_here ne)

  pub one_gives : g.waits ≡ 1 → (net : Circuit) → net ≡ one_wait_net c p → IsPlainNet c p net
  one_gives e net same = one_is_plain c p net (style_here OneWait (one_style g e)) same

  pub rounds_give : (ne : g.waits ≡ 1 → ⊥) (e : ℕ) → g.waits ≡ pow e → (net : Circuit) → net ≡ rounds_net c p e → IsPlainNet c p net
  rounds_give ne e power net same = rounds_are_plain c p net g.waits e (more_here ne) power same

  module _ {E : Type 0} (d : Command) (copy : d ≡ c) (r : Result Circuit E) where
    pub one_result : g.waits ≡ 1 → ((q : Proc) → HasOneWait d q → IfOk r (λ n. n ≡ one_wait_net d q)) → IfOk r (IsPlainNet c p)
    one_result e gives = if_ok (λ n. n ≡ one_wait_net c p) (IsPlainNet c p) (one_gives e) r
        (subst (λ (b : Command). IfOk r (λ n. n ≡ one_wait_net b p)) copy (gives p (subst (λ (b : Command). HasOneWait b p) (sym copy) (has_one e))))

    pub rounds_result : (g.waits ≡ 1 → ⊥) → ((q : Proc) (e : ℕ) → HasRounds d q e → IfOk r (λ n. n ≡ rounds_net d q e)) → IfOk r (IsPlainNet c p)
    rounds_result ne gives =
        let (e, power, has) = has_rounds ne in
        if_ok (λ n. n ≡ rounds_net c p e) (IsPlainNet c p) (rounds_give ne e power) r
        (subst (λ (b : Command). IfOk r (λ n. n ≡ rounds_net b p e)) copy (gives p e (subst (λ (b : Command). HasRounds b p e) (sym copy) has)))

-- the process of a command of one alone
pub same_graph : (c : Command) (p q : Proc) (g : WaitGraph) → HasPlain c p → HasPlain c q → g ≡ graph_of p → g ≡ graph_of q
same_graph c p q g h k is =
    let one : ◌≡◌ {A = List Proc} (p ∷ []) (q ∷ []) = sym h.alone ∙ k.alone in
    let at : p ≡ q = cc in
    is ∙ ap graph_of at
