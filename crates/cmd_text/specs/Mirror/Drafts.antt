-- Mirror of the code's draft of a process: the state of the machine that it stands for.
use Rattle.std.specs.Prelude.{◌≡◌, ℕ, Bool, true, false, List, [], ◌∷◌, Option, Some, None}
use Rattle.cmd_tree.specs.declared.tree.Item.{Item}
use Rattle.cmd_tree.specs.Tree.{TSeq, TSeqs}
use Rattle.cmd_tree.specs.View.{seqs_of, seq_of}
use Rattle.cmd_text.specs.declared.draft.Level.{Level}
use Rattle.cmd_text.specs.declared.draft.Draft.{Draft}
use Rattle.cmd_text.specs.declared.draft.Mode as code
use Rattle.cmd_text.specs.declared.draft.Mode.TheVariants as mode
use Rattle.cmd_text.specs.Token.{Token}
use Rattle.cmd_text.specs.Mirror.Machine.{Ctx, InBody, InLead, Inside, State, AtForm, AtBody, AtItem, AtMark, AfterItem, AtBurst, AtBurstMark, AfterBurst, AtSecond, Closed, step}

abbrev pub base_of : Bool → Option TSeq → Ctx
base_of true lead = InLead
base_of false lead = InBody lead

-- the brackets that are open, the outermost first
abbrev pub ctx_from : Ctx → List Level → Ctx
ctx_from k [] = k
ctx_from k (l ∷ ls) = ctx_from (Inside k (seqs_of l.alts) (seq_of l.items)) ls

-- the lead, if there is one
abbrev pub lead_if : Bool → List Item → Option TSeq
lead_if true is = Some (seq_of is)
lead_if false is = None

abbrev pub lead_of : Draft → Option TSeq
lead_of d = lead_if d.led d.lead

abbrev pub ctx_of : Draft → Ctx
ctx_of d = ctx_from (base_of d.in_lead (lead_of d)) d.outer

abbrev pub alts_of : Draft → TSeqs
alts_of d = seqs_of d.alts

abbrev pub items_of : Draft → TSeq
items_of d = seq_of d.items

-- behind the body of a lead
abbrev pub at_second : Draft → State
at_second d = AtSecond (seq_of d.lead) (alts_of d)

abbrev pub at_item : Draft → State
at_item d = AtItem (ctx_of d) (alts_of d) (items_of d)

abbrev pub at_mark : Draft → State
at_mark d = AtMark (ctx_of d) (alts_of d) (items_of d) d.name.items

abbrev pub after_item : Draft → State
after_item d = AfterItem (ctx_of d) (alts_of d) (items_of d)

abbrev pub at_burst : Draft → State
at_burst d = AtBurst (ctx_of d) (alts_of d) (items_of d) d.marks

abbrev pub at_burst_mark : Draft → State
at_burst_mark d = AtBurstMark (ctx_of d) (alts_of d) (items_of d) d.marks d.name.items

abbrev pub after_burst : Draft → State
after_burst d = AfterBurst (ctx_of d) (alts_of d) (items_of d) d.marks

abbrev pub state_at : code.Mode → Draft → State
state_at mode.Form d = AtForm
state_at mode.Body d = AtBody (lead_of d)
state_at mode.Item d = at_item d
state_at mode.Mark d = at_mark d
state_at mode.After d = after_item d
state_at mode.Burst d = at_burst d
state_at mode.BurstMark d = at_burst_mark d
state_at mode.AfterBurst d = after_burst d
state_at mode.Second d = at_second d
state_at mode.Closed d = Closed (record { lead = lead_of d; body = alts_of d })

-- the state that a draft stands for
abbrev pub state_of : Draft → State
state_of d = state_at d.mode d

-- this state, where the token was taken
abbrev pub only_if : Bool → State → Option State
only_if true s = Some s
only_if false s = None

-- from the state s the token x leads to the draft d, if it is taken
abbrev pub Takes : State → Token → Bool → Draft → Type 0
Takes s x taken d = (number : List ℕ → ℕ) → step number s x ≡ only_if taken (state_of d)
