-- The two forms of a grant, as processes.
use Rattle.std.specs.Prelude.{◌≡◌, ◌⊎◌, ℕ, List, [], ◌∷◌, map, Some, None}
use Rattle.cmd_tree.specs.declared.tree.Mark.{Mark}
use Rattle.cmd_tree.specs.declared.tree.Proc.{Proc}
use Rattle.cmd_tree.specs.Tree.{TItem, TSeq, TSeqs, TBurst, TAlt, Stop, Or, Done, Then}
use Rattle.cmd_tree.specs.Marks.{input, output}

-- a burst of one mark
abbrev pub single : Mark → TItem
single m = TBurst (m ∷ [])

-- a sequence of one item
abbrev pub lone : TItem → TSeq
lone i = Then i Done

-- the alternatives p!
abbrev pub gifts : List ℕ → TSeqs
gifts [] = Stop
gifts (p ∷ ps) = Or (lone (single (output p))) (gifts ps)

-- pref*[n?;(p1!|..|pk!)]: each time that n asks, one of the symbols ps is granted
abbrev pub plain : ℕ → List ℕ → Proc
plain n ps = record { lead = None; body = Some (Then (single (input n)) (lone (TAlt (gifts ps)))) }

-- a symbol that is granted, and the one by which it is returned
pub record Giving : Type 0 where
  pub granted : ℕ
  pub returned : ℕ

-- the alternatives p!;d?
abbrev pub loans : List Giving → TSeqs
loans [] = Stop
loans (g ∷ gs) = Or (Then (single (output g.granted)) (lone (single (input g.returned)))) (loans gs)

-- pref*[p1!;d1?|..|pk!;dk?]: one is granted, and no other until it is returned
abbrev pub release : List Giving → Proc
release gs = record { lead = None; body = Some (lone (TAlt (loans gs))) }

abbrev pub granted_of : List Giving → List ℕ
granted_of gs = map (λ g. g.granted) gs

abbrev pub returned_of : List Giving → List ℕ
returned_of gs = map (λ g. g.returned) gs

-- an alternative is p!;d?
abbrev pub Offers : List Giving → ℕ → ℕ → Type 0
Offers [] p d = ⊥
Offers (g ∷ gs) p d = ((g.granted ≡ p) × (g.returned ≡ d)) ⊎ Offers gs p d
