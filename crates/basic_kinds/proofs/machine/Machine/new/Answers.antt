use Rattle.std.proofs.Common.{◌∙◌, refl, sym, ap}
use Rattle.basic_kinds.specs.declared.kind.Kind.TheVariants.{Fork, C, Merge, Dw, Seq}
use Rattle.basic_kinds.proofs.MachineTraces.{begins}
use Rattle.basic_kinds.proofs.machine.Machine.new.Goals as goal
use Rattle.basic_kinds.proofs.machine.Machine.new.Goals.{in-Wire, in-Iwire, in-Source, in-Sink, in-Fork+in_ok-new-in-Fork, in-C+in_ok-new-in-C, in-Merge, in-Toggle, in-Dw+in_ok-new-in-Dw, in-Seq+in_ok-new-in-Seq}

pub returns-clause-stands : goal.returns-clause-stands
returns-clause-stands c = elim c.match-kind.branch [
  | in-Wire w ↦ begins c.match-kind.result _ c.args.kind.now c.requires.wide w.result-is w.in-Wire.is (w.new.ensures.wire refl)
  | in-Iwire w ↦ begins c.match-kind.result _ c.args.kind.now c.requires.wide w.result-is w.in-Iwire.is (w.new-in-Iwire.ensures.iwire refl)
  | in-Source w ↦ begins c.match-kind.result _ c.args.kind.now c.requires.wide w.result-is w.in-Source.is w.new-in-Source.ensures
  | in-Sink w ↦ begins c.match-kind.result _ c.args.kind.now c.requires.wide w.result-is w.in-Sink.is w.new-in-Sink.ensures
  | in-Fork+in_ok-new-in-Fork w ↦ let e = w.in_ok-new-in-Fork.ensures in
      begins c.match-kind.result _ c.args.kind.now c.requires.wide w.result-is (w.in-Fork.is ∙ ap Fork (sym e.width)) e.stands
  | in-C+in_ok-new-in-C w ↦ let e = w.in_ok-new-in-C.ensures in
      begins c.match-kind.result _ c.args.kind.now c.requires.wide w.result-is (w.in-C.is ∙ ap C (sym e.width)) e.stands
  | in-Merge w ↦ let e = w.new-in-Merge.ensures in
      begins c.match-kind.result _ c.args.kind.now c.requires.wide w.result-is (w.in-Merge.is ∙ ap Merge (sym e.width)) e.stands
  | in-Toggle w ↦ begins c.match-kind.result _ c.args.kind.now c.requires.wide w.result-is w.in-Toggle.is w.new-in-Toggle.ensures
  | in-Dw+in_ok-new-in-Dw w ↦ let e = w.in_ok-new-in-Dw.ensures in
      begins c.match-kind.result _ c.args.kind.now c.requires.wide w.result-is (w.in-Dw.is ∙ ap Dw (sym e.shape)) e.stands
  | in-Seq+in_ok-new-in-Seq w ↦ let e = w.in_ok-new-in-Seq.ensures in
      begins c.match-kind.result _ c.args.kind.now c.requires.wide w.result-is (w.in-Seq.is ∙ ap Seq (sym e.width)) e.stands
]
