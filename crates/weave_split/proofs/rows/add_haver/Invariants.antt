use Rattle.std.proofs.Common.{◌≡◌, ℕ, ◌<◌, [], ◌∷◌, ◌++◌, length, map, get_or, drop}
use Rattle.std.specs.Prelude.{if◌then◌else◌}
use Rattle.cmd_tree.specs.Lists.{is_in}
use Rattle.weave_split.proofs.rows.add_haver.Given as goal

abbrev pub invariant-loop-symbol : goal.invariant-loop-symbol
invariant-loop-symbol l = record {
  many : length l.rows ≡ length l.initial.rows;
  rows : (a : ℕ) → a < length l.initial.rows
      → get_or (map (λ v. v.items) l.rows) a [] ++ (if is_in a (drop l.symbol-index l.symbols) then l.haver ∷ [] else []) ≡ get_or (map (λ v. v.items) l.initial.rows) a [] ++ (if is_in a l.symbols then l.haver ∷ [] else []);
}
