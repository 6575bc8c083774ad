use Rattle.std.proofs.Common.{◌↔◌, IsTrue, sym, subst}
use Rattle.std.specs.List.{Contains}
use Rattle.trace_laws.proofs.Members.{has_in}
use Rattle.trace_laws.proofs.words.WordSet.has.Goals as goal

pub returns : goal.returns
returns c = subst (λ ks. IsTrue c.contains.result ↔ Contains ks c.args.word.now) c.self.view_is
    (subst (λ b. IsTrue b ↔ Contains c.self.inside.set.keys c.args.word.now) (sym c.contains.ensures) (has_in c.self.inside.set.keys c.args.word.now))
