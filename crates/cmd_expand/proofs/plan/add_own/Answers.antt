use Rattle.std.proofs.Common.{◌≡◌, ◌∙◌, ◌+◌, length, ap, refl, rules}
use Rattle.cmd_expand.specs.declared.plan.Part.TheVariants.{Own}
use Rattle.cmd_expand.proofs.Parts.{own_added}
use Rattle.cmd_expand.proofs.plan.add_own.Goals as goal

pub returns-clause-added : goal.returns-clause-added
returns-clause-added c = λ ms h.
    let n : c.len.result ≡ length c.as_slice.result.now = search rules in
    own_added ms c.args.draft.now (record { parts = c.push.new.self; symbols = c.add_symbols.new.symbols; procs = c.in_ok-draft.field-0; places = c.in_ok-draft-2.field-0 })
    (Own c.args.process) c.args.process.now c.as_slice.result.now refl c.in_ok-push.ensures.items (c.as_slice.ensures.value ∙ c.in_ok-symbols.ensures) c.in_ok-add_symbols.ensures.symbols
    c.in_ok-draft.ensures (c.in_ok-draft-2.ensures ∙ ap (λ k. c.args.draft.now.places + k) n) h
