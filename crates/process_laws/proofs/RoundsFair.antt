-- A process of rounds is fair.
use Rattle.std.proofs.Common.{◌≡◌, ℕ, ◌≤◌, Bool, true, false, nat_eq, List, map, refl, sym, subst, arith, count_by, IsTrue}
use Rattle.std.specs.List.{AllByRecursion, IsDistinct}
use Rattle.cmd_tree.specs.declared.tree.Mark.{Mark}
use Rattle.cmd_tree.specs.Lists.{is_in}
use Rattle.cmd_tree.specs.Marks.{input, output}
use Rattle.cmd_tree.specs.Meaning.{symbols}
use Rattle.cmd_tree.specs.RoundsProc.{rounds_of}
use Rattle.cmd_tree.proofs.Bursts.{count_is, distinct_once}
use Rattle.cmd_tree.proofs.RoundsSteps.{symbols_input, symbols_output}
use Rattle.process_laws.specs.Shape.{IsBurst, IsFair}
use Rattle.process_laws.proofs.GrantTraces.{of_way}

burst_of : (out : ℕ → Bool) (d : Bool) (ms : List Mark) (xs : List ℕ) → symbols ms ≡ xs
    → IsDistinct nat_eq xs → AllByRecursion (λ a. out a ≡ d) xs → IsBurst out d ms
burst_of out d ms xs e different all = record {
  differ = λ a. subst (λ ys. count_by (nat_eq a) ys ≤ 1) (sym e) (omega (arith, distinct_once a xs different, count_is a xs));
  one_way = λ a h. of_way out d xs all a (subst (λ ys. IsTrue (is_in a ys)) e h);
}

pub rounds_fair : (out : ℕ → Bool) (ins outs : List ℕ) → IsDistinct nat_eq ins → IsDistinct nat_eq outs
    → AllByRecursion (λ a. out a ≡ false) ins → AllByRecursion (λ a. out a ≡ true) outs
    → IsFair out (rounds_of ins outs)
rounds_fair out ins outs i o falls rises = record {
  first = false;
  turn = false;
  lead = refl;
  body = (
    true,
    (burst_of out false (map input ins) ins (symbols_input ins) i falls, refl),
    (false, (burst_of out true (map output outs) outs (symbols_output outs) o rises, refl), refl),
  );
  lead_apart = tt;
  body_apart = (tt, (tt, tt));
}
