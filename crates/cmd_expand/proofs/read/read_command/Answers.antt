use Rattle.std.proofs.Common.{◌≡◌, ℕ, List, [], ◌∷◌, ◌++◌, Option, Some, Ok, ap, sym, subst, ◌∙◌}
use Rattle.std.specs.Prelude.{codes, IfSome, is_some}
use Rattle.cmd_tree.specs.Limits.{IsCommand}
use Rattle.cmd_text.specs.Canonical.{procs_text}
use Rattle.cmd_text.specs.Source.{IsTextOfBytes, IsShallowText}
use Rattle.cmd_text.specs.Printed.{main_text, main_sentence}
use Rattle.cmd_expand.specs.Expansion.{Meant, expansion}
use Rattle.cmd_expand.proofs.CanonicalText.{IsRead, canonical_read, of_source, meant_of, as_meant, same_bytes}
use Rattle.cmd_expand.proofs.read.read_command.Goals as goal

pub returns-in_default-clause-none : goal.returns-in_default-clause-none
returns-in_default-clause-none c = λ missing names procs k t.
    let read = canonical_read names procs k (c.canonical_texts_are_read.ensures names procs k) in
    let at = of_source c.deref.result.now c.args.text.now names procs (c.deref.ensures.value ∙ c.in_ok-source.ensures) t read in
    c.in_ok-file.ensures.none names (main_sentence procs ∷ []) at.0 at.1 (ap is_some c.in_default.is)

pub returns-in_default-2-clause-none : goal.returns-in_default-2-clause-none
returns-in_default-2-clause-none c = λ missing names procs k t.
    let read = canonical_read names procs k (c.canonical_texts_are_read.ensures names procs k) in
    let at = of_source c.deref.result.now c.args.text.now names procs (c.deref.ensures.value ∙ c.in_ok-source.ensures) t read in
    let same = c.in_ok-file.ensures.same names (main_sentence procs ∷ []) at.0 in
    let file = meant_of names procs c.in_ok-file.field-0 c.in-Some.file c.in-Some.is same read in
    c.in_ok-command.ensures.none (record { names = names; procs = procs }) file (ap is_some c.in_default-2.is)

pub returns-then-ne-clause-none : goal.returns-then-ne-clause-none
returns-then-ne-clause-none c = λ missing names procs k t.
    let read = canonical_read names procs k (c.canonical_texts_are_read.ensures names procs k) in
    let at = of_source c.deref.result.now c.args.text.now names procs (c.deref.ensures.value ∙ c.in_ok-source.ensures) t read in
    let same = c.in_ok-file.ensures.same names (main_sentence procs ∷ []) at.0 in
    let file = meant_of names procs c.in_ok-file.field-0 c.in-Some.file c.in-Some.is same read in
    let text = as_meant c.in-Some.file.names c.in-Some.file.sentences names procs c.in_ok-command.field-0 c.in-Some-2.command c.in-Some-2.is c.in_ok-command.ensures.some file in
    same_bytes c.as_slice.result.now c.args.text.now (c.as_slice.ensures.value ∙ c.in_ok-canonical.ensures ∙ text ∙ sym t) c.if-ne.ensures
