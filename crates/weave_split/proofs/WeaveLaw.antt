-- The network of a weave is correct for its command.
use Rattle.std.proofs.Common.{◌≡◌, ◌↔◌, ℕ, zero, suc, ◌+◌, ◌<◌, Bool, false, true≢false, nat_eq, List, [], ◌∷◌, length, map, get_or, slice_get, Some, refl, sym, ap, ◌∙◌, subst, arith, if◌then◌else◌, append-nil}
use Rattle.std.specs.List.{AllByRecursion, range_with_len}
use Rattle.std.proofs.Math.Path.{fun_ext}
use Rattle.std.proofs.lemmas.List.{length-map}
use Rattle.cmd_tree.specs.declared.tree.Mark.{Mark}
use Rattle.cmd_tree.specs.declared.tree.Proc.{Proc}
use Rattle.cmd_tree.specs.declared.command.Command.{Command}
use Rattle.cmd_tree.specs.Limits.{marks_of_proc, marks_of_all}
use Rattle.cmd_tree.specs.Marks.{is_output}
use Rattle.cmd_tree.specs.Meaning.{TraceOf, Trace}
use Rattle.cmd_rename.specs.Symbols.{symbols_in, put_each}
use Rattle.di_grammar.specs.Admitted.{Admitted}
use Rattle.di_grammar.specs.Grants.{IsGrant}
use Rattle.di_grammar.specs.Outputs.{output_in, out_of}
use Rattle.di_grammar.proofs.SumGrants.{grants_are}
use Rattle.net_core.specs.declared.spec.NodeSpec.{NodeSpec}
use Rattle.net_core.specs.declared.spec.NodeSpec.TheVariants.{Cmd}
use Rattle.net_core.specs.Specs.{outs_of, gives_symbol, May, IsFormed}
use Rattle.net_core.specs.Wiring.{IsNetwork, IsClosed}
use Rattle.net_core.specs.Networks.{IsClean, Correct}
use Rattle.plain_split.proofs.SharedAdmitted.{eq_flip}
use Rattle.cmd_alone.specs.Alone.{IsAlone, own_symbols, symbol_at}
use Rattle.cmd_alone.proofs.Traces.{alone_traces}
use Rattle.cmd_alone.proofs.Admission.{outputs_kept}
use Rattle.weave_split.specs.WeaveChart.{Ties, marks_at, grants_at}
use Rattle.weave_split.specs.WeaveNet.{AreAlone, ties_of, weave_circuit}
use Rattle.weave_split.proofs.WeaveWeb.{Tied}
use Rattle.weave_split.proofs.WeaveSound.{weave_sound}
use Rattle.weave_split.proofs.WeaveExact.{weave_exact}
use Rattle.weave_split.proofs.WeaveTied.{proc_at, grants_of, marks_are, ties_tied}
use Rattle.weave_split.proofs.WeaveWires.{weave_narrow}
use Rattle.weave_split.proofs.WeaveCharted.{Specified, weave_network, weave_closed, weave_clean, weave_right}

-- ---- the ports of a process by itself

-- the first mark of a symbol, either way
out_same : (ms : List Mark) (a : ℕ) → output_in ms a ≡ gives_symbol ms a
out_same [] a = refl
out_same (m ∷ ms) a = ap (λ b. if b then is_output m.dir else output_in ms a) (eq_flip a m.sym.0)
    ∙ ap (λ x. if nat_eq m.sym.0 a then is_output m.dir else x) (out_same ms a)

outs_are : (c : Command) → outs_of (Cmd c) ≡ map (out_of c.procs) (range_with_len 0 (length c.names))
outs_are c = ap (λ (f : ℕ → Bool). map f (range_with_len 0 (length c.names))) (sym (fun_ext (out_same (marks_of_all c.procs))))

-- what is read at each place of a list
read_from : (h : ℕ → Bool) (f : ℕ → Bool) (k : ℕ) (xs : List ℕ) → ((i : ℕ) → i < length xs → f (k + i) ≡ h (get_or xs i 0)) → map f (range_with_len k (length xs)) ≡ map h xs
read_from h f k [] e = refl
read_from h f k (x ∷ xs) e =
    ap (λ b. b ∷ map f (range_with_len (k + 1) (length xs))) (let z : k ≡ k + 0 = omega arith in ap f z ∙ e 0 (omega arith))
    ∙ ap (λ bs. h x ∷ bs) (read_from h f (k + 1) xs (λ i l. let z : k + 1 + i ≡ k + suc i = omega arith in ap f z ∙ e (suc i) (omega (arith, l))))

read_all : (h f : ℕ → Bool) (xs : List ℕ) → ((i : ℕ) → i < length xs → f i ≡ h (get_or xs i 0)) → map f (range_with_len 0 (length xs)) ≡ map h xs
read_all h f xs e = read_from h f 0 xs (λ i l. let z : 0 + i ≡ i = omega arith in ap f z ∙ e i l)

pub place_get : (ps : List Proc) (p : ℕ) (q : Proc) → slice_get ps p ≡ Some q → proc_at ps p ≡ q
place_get [] p q e = absurd (cc)
place_get (x ∷ ps) zero q e = let z : x ≡ q = cc in z
place_get (x ∷ ps) (suc p) q e = place_get ps p q e

pub get_place : (ps : List Proc) (p : ℕ) → p < length ps → slice_get ps p ≡ Some (proc_at ps p)
get_place [] p l = absurd (omega (arith, l))
get_place (x ∷ ps) zero l = refl
get_place (x ∷ ps) (suc p) l = get_place ps p (omega (arith, l))

own_are : (ps : List Proc) (p : ℕ) (q : Proc) → proc_at ps p ≡ q → own_symbols q ≡ put_each [] (symbols_in (marks_at ps p))
own_are ps p q e = ap (λ ms. put_each [] (symbols_in ms)) (append-nil (marks_of_proc q) ∙ sym (ap marks_of_proc e) ∙ sym (marks_are ps p))

-- ---- the network

module _ (c : Command) (admitted : Admitted c.procs) (alone : ℕ → NodeSpec) (are : AreAlone c alone) where
  abbrev g : Ties
  g = ties_of c

  abbrev traces : ℕ → List ℕ → Type 0
  traces p = TraceOf (proc_at c.procs p)

  abbrev tied : Tied g (Trace c.procs) traces
  tied = ties_tied c.procs (length c.names) c.valid.shaped admitted c.valid.numbered

  -- the command of a process
  command_at : (p : ℕ) → p < length c.procs → grants_at c.procs p ≡ false → (d : Command) × IsAlone c p d × (alone p ≡ Cmd d)
  command_at = are.each

  pub other : (p : ℕ) → p < length c.procs → grants_at c.procs p ≡ false → IsGrant (proc_at c.procs p) → ⊥
  other p low e is = true≢false (sym ((grants_are (proc_at c.procs p)).1 is) ∙ sym (grants_of c.procs p low) ∙ e)

  formed_at : (p : ℕ) → p < length c.procs → grants_at c.procs p ≡ false → IsFormed (alone p)
  formed_at p low e = let (d, a, is) = command_at p low e in subst IsFormed (sym is) tt

  module _ (p : ℕ) (d : Command) (a : IsAlone c p d) where
    at : proc_at c.procs p ≡ a.process
    at = place_get c.procs p a.process a.place

    symbols_are : own_symbols a.process ≡ g.symbols p
    symbols_are = own_are c.procs p a.process at

    names_long : length d.names ≡ length (g.symbols p)
    names_long = ap length a.names ∙ length-map (own_symbols a.process) (λ k. get_or c.names k []) ∙ ap length symbols_are

    outs_there : outs_of (Cmd d) ≡ map (out_of c.procs) (g.symbols p)
    outs_there =
        outs_are d ∙ ap (λ n. map (out_of d.procs) (range_with_len 0 n)) names_long
        ∙ read_all (out_of c.procs) (out_of d.procs) (g.symbols p) (λ k low.
        ap (λ ps. out_of ps k) a.procs
        ∙ outputs_kept c.procs p a.process a.place admitted.directions k (omega (arith, low, ap length symbols_are))
        ∙ ap (λ (xs : List ℕ). out_of c.procs (get_or xs k 0)) symbols_are)

    may_there : (u : List ℕ) → May (Cmd d) u ↔ (AllByRecursion (λ k. k < length (g.symbols p)) u × traces p (map (λ k. get_or (g.symbols p) k 0) u))
    unfolding May
    may_there u =
        subst (λ (q : Proc). Trace d.procs u ↔ (AllByRecursion (λ k. k < length (g.symbols p)) u × TraceOf q (map (λ k. get_or (g.symbols p) k 0) u))) (sym at)
        (subst (λ (xs : List ℕ). Trace d.procs u ↔ (AllByRecursion (λ k. k < length xs) u × TraceOf a.process (map (λ k. get_or xs k 0) u))) symbols_are
        (subst (λ (ps : List Proc). Trace ps u ↔ (AllByRecursion (λ k. k < length (own_symbols a.process)) u × TraceOf a.process (map (symbol_at a.process) u))) (sym a.procs)
        (alone_traces a.process u)))

  outs_at : (p : ℕ) → p < length c.procs → grants_at c.procs p ≡ false → outs_of (alone p) ≡ map g.out (g.symbols p)
  outs_at p low e = let (d, a, is) = command_at p low e in ap outs_of is ∙ outs_there p d a

  may_at : (p : ℕ) → p < length c.procs → grants_at c.procs p ≡ false → (u : List ℕ)
      → May (alone p) u ↔ (AllByRecursion (λ k. k < length (g.symbols p)) u × traces p (map (λ k. get_or (g.symbols p) k 0) u))
  may_at p low e u = let (d, a, is) = command_at p low e in
      subst (λ s. May s u ↔ (AllByRecursion (λ k. k < length (g.symbols p)) u × traces p (map (λ k. get_or (g.symbols p) k 0) u))) (sym is) (may_there p d a u)

  whole_may : (u : List ℕ) → May (Cmd c) u ↔ Trace c.procs u
  unfolding May
  whole_may u = ((λ h. h), (λ h. h))

  specified : Specified g (Trace c.procs) traces (Cmd c) alone
  specified = record {
    formed = tt;
    outs = outs_are c;
    may = whole_may;
    formed_at = formed_at;
    outs_at = outs_at;
    may_at = may_at;
  }

  pub circuit_network : IsNetwork (weave_circuit c alone)
  circuit_network = weave_network g (Trace c.procs) traces tied (Cmd c) alone (weave_narrow c) specified

  pub circuit_closed : IsClosed (weave_circuit c alone)
  circuit_closed = weave_closed g (Trace c.procs) traces tied (Cmd c) alone (weave_narrow c) specified

  pub circuit_clean : IsClean (weave_circuit c alone)
  circuit_clean = weave_clean g (Trace c.procs) traces tied (Cmd c) alone (weave_narrow c) specified

  pub circuit_right : Correct (weave_circuit c alone) (Cmd c)
  circuit_right = weave_right g (Trace c.procs) traces tied (Cmd c) alone (weave_narrow c) specified
      (weave_sound g (Trace c.procs) traces tied) (weave_exact g (Trace c.procs) traces tied)
