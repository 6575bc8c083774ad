-- The chart of the network of a process in rounds. A FORK, C or MERGE of one is left out, and so is the begin of an act that does not begin the process:
-- one wire of the network is then a path of wires, and is named by the first of them.
use Rattle.std.specs.Prelude.{ℕ, suc, Bool, true, false, not, ◌&&◌, nat_eq, nat_lt, if◌then◌else◌, List, [], ◌∷◌, ◌++◌, length, map, filter, slice_index_or}
use Rattle.std.specs.List.{range_with_len, position_or_len}
use native.Mathlib.Decide.{ℕ_discrete}
use Rattle.cmd_tree.specs.Lists.{is_in}
use Rattle.basic_kinds.specs.declared.kind.Kind.TheVariants as kind
use Rattle.net_core.specs.declared.spec.NodeSpec.{NodeSpec}
use Rattle.net_core.specs.declared.spec.NodeSpec.TheVariants.{Kind as Basic}
use Rattle.net_core.specs.Specs.{outs_of}
use Rattle.net_laws.specs.Charts.{Chart}
use Rattle.net_laws.specs.ForkChain.{each}
use Rattle.plain_split.specs.RoundsNet.{Path, Top, Odd, Even, depth, pow, first_at, leaf, act_after, burst_before, path_discrete, Wire, Sym, To, Go, Put, Out, wire_discrete, Name, Env, Join, Tog, Gate, Spread, Shows}

-- The specification, the number of levels of the tree, whether an act begins the process, the burst, and the outputs of each act.
pub record Parts : Type 0 where
  pub spec : NodeSpec
  pub levels : ℕ
  pub opens : Bool
  pub burst : List ℕ
  pub outs : ℕ → List ℕ

abbrev pub is_single : List ℕ → Bool
is_single [] = false
is_single (x ∷ []) = true
is_single (x ∷ y ∷ xs) = false

abbrev pub sole : List ℕ → ℕ
sole [] = 0
sole (x ∷ xs) = x

abbrev pub same : Wire → Wire → Bool
same v w = elim (wire_discrete ℕ_discrete path_discrete v w) [ yes p ↦ true | no h ↦ false ]

-- whether a wire does not end at the environment
abbrev pub ends_inside : Wire → Bool
ends_inside (Out a) = false
ends_inside (Sym a) = true
ends_inside (To p) = true
ends_inside (Go y) = true
ends_inside (Put y a) = true

module _ (r : Parts) where
  abbrev pub acts : ℕ
  acts = pow r.levels

  abbrev pub entry : ℕ → Path
  entry y = leaf r.levels (burst_before r.opens (pow r.levels) y)

  abbrev pub act_at : Path → ℕ
  act_at p = act_after r.opens (pow r.levels) (first_at p)

  -- the acts that give an output, in text order
  abbrev pub givers : ℕ → List ℕ
  givers a = filter (λ y. is_in a (r.outs y)) (range_with_len 0 (pow r.levels))

  abbrev pub begins_process : ℕ → Bool
  begins_process y = r.opens && nat_eq y 0

  abbrev pub is_kept : Name → Bool
  is_kept Env = true
  is_kept Join = not (is_single r.burst)
  is_kept (Tog p) = nat_lt (depth p) r.levels
  is_kept (Gate y) = begins_process y
  is_kept (Spread y) = not (is_single (r.outs y))
  is_kept (Shows a) = not (is_single (givers a))

  -- the first wire of the path through a wire
  abbrev pub back_go : ℕ → Wire
  back_go y = if begins_process y then Go y else To (entry y)

  abbrev pub back_put : ℕ → ℕ → Wire
  back_put y a = if is_single (r.outs y) then back_go y else Put y a

  abbrev pub back : Wire → Wire
  back (Sym a) = Sym a
  back (To Top) = if is_single r.burst then Sym (sole r.burst) else To Top
  back (To (Odd p)) = To (Odd p)
  back (To (Even p)) = To (Even p)
  back (Go y) = back_go y
  back (Put y a) = back_put y a
  back (Out a) = if is_single (givers a) then back_put (sole (givers a)) a else Out a

  -- the last wire of the path through a wire
  abbrev pub on_put : ℕ → ℕ → Wire
  on_put y a = if is_single (givers a) then Out a else Put y a

  abbrev pub on_go : ℕ → Wire
  on_go y = if is_single (r.outs y) then on_put y (sole (r.outs y)) else Go y

  abbrev pub on : Wire → Wire
  on (Sym a) = if is_single r.burst then To Top else Sym a
  on (To p) = if nat_eq (depth p) r.levels then (if begins_process (act_at p) then To p else on_go (act_at p)) else To p
  on (Go y) = on_go y
  on (Put y a) = on_put y a
  on (Out a) = Out a

  abbrev pub count : ℕ
  count = length (outs_of r.spec)

  abbrev pub is_out : ℕ → Bool
  is_out a = slice_index_or (outs_of r.spec) a false

  abbrev pub outer : ℕ → Wire
  outer a = if is_out a then Out a else Sym a

  abbrev pub outer_ports : List Wire
  outer_ports = map outer (range_with_len 0 count)

  -- the first wires of paths that begin inside
  abbrev pub places : ℕ → List Wire
  places d = map (λ i. To (leaf (suc d) i)) (range_with_len 0 (pow (suc d)))

  abbrev pub puts : ℕ → List Wire
  puts y = if is_single (r.outs y) then [] else map (Put y) (r.outs y)

  abbrev pub inner_wires : List Wire
  inner_wires = (if is_single r.burst then [] else To Top ∷ []) ++ (each places r.levels ++ ((if r.opens then Go 0 ∷ [] else []) ++ each puts (pow r.levels)))

  -- the wires of the network in the order of their numbers
  abbrev pub lines : List Wire
  lines = map back outer_ports ++ filter (λ w. ends_inside (on w)) inner_wires

  abbrev pub ports : Name → List Wire
  ports Env = outer_ports
  ports Join = map Sym r.burst ++ To Top ∷ []
  ports (Tog p) = To p ∷ To (Odd p) ∷ To (Even p) ∷ []
  ports (Gate y) = To (entry y) ∷ Go y ∷ []
  ports (Spread y) = Go y ∷ map (Put y) (r.outs y)
  ports (Shows a) = map (λ y. Put y a) (givers a) ++ Out a ∷ []

  abbrev pub spec_of : Name → NodeSpec
  spec_of Env = r.spec
  spec_of Join = Basic (kind.C (length r.burst))
  spec_of (Tog p) = Basic kind.Toggle
  spec_of (Gate y) = Basic kind.Iwire
  spec_of (Spread y) = Basic (kind.Fork (length (r.outs y)))
  spec_of (Shows a) = Basic (kind.Merge (length (givers a)))

  abbrev pub toggles : ℕ → List Name
  toggles d = map (λ i. Tog (leaf d i)) (range_with_len 0 (pow d))

  abbrev pub parts : List Name
  parts = filter is_kept (Join ∷ []) ++ (each toggles r.levels ++ (filter is_kept (Gate 0 ∷ []) ++ (filter is_kept (map Spread (range_with_len 0 (pow r.levels)))
      ++ map Shows (filter (λ a. is_out a && not (is_single (givers a))) (range_with_len 0 count)))))

  abbrev pub rounds_chart : Chart Name Wire
  rounds_chart = record {
    env = Env;
    parts = parts;
    spec = spec_of;
    ports = ports;
    number = λ w. position_or_len (same (back w)) lines;
    many = length lines;
  }
