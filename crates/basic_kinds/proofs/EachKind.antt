-- The traces of each kind follow its counts.
use Rattle.std.proofs.Common.{◌↔◌, ℕ, List, [], ◌∷◌, ◌++◌, arith}
use Rattle.cmd_tree.specs.Rounds.{counts}
use Rattle.cmd_tree.proofs.RoundsPorts.{rounds_ports}
use Rattle.cmd_tree.proofs.RoundsRule.{follows_end, follows_last, follows_start}
use Rattle.basic_kinds.specs.declared.kind.Kind.{Kind}
use Rattle.basic_kinds.specs.declared.kind.Kind.TheVariants.{Wire, Iwire, Source, Sink, Fork, C, Merge, Toggle, Dw, Seq}
use Rattle.basic_kinds.specs.Kinds.{IsWide}
use Rattle.basic_kinds.specs.KindTraces.{KindTrace}
use Rattle.basic_kinds.specs.KindCounts.{KindAt, KindFollows}
use Rattle.basic_kinds.proofs.SmallKinds.{iwire_counts, source_counts, sink_counts, toggle_counts, merge_counts}
use Rattle.basic_kinds.proofs.SeqKind.{seq_counts}
use Rattle.basic_kinds.proofs.DwKind.{dw_counts}

pub kind_counts : (kind : Kind) (t : List ℕ) → IsWide kind → KindTrace kind t ↔ KindFollows kind t
kind_counts Wire t h = rounds_ports 1 1 (omega arith) (omega arith) t
kind_counts Iwire t h = iwire_counts t
kind_counts Source t h = source_counts t
kind_counts Sink t h = sink_counts t
kind_counts (Fork n) t h = rounds_ports 1 n (omega arith) (omega (arith, h)) t
kind_counts (C n) t h = rounds_ports n 1 (omega (arith, h)) (omega arith) t
kind_counts (Merge n) t h = merge_counts n h t
kind_counts Toggle t h = toggle_counts t
kind_counts (Dw s) t h = dw_counts s t
kind_counts (Seq k) t h = seq_counts k h t

pub kind_empty : (kind : Kind) → IsWide kind → KindTrace kind []
kind_empty kind h = (kind_counts kind [] h).1 tt

pub kind_push : (kind : Kind) (t : List ℕ) (p : ℕ) → IsWide kind → KindTrace kind (t ++ p ∷ [])
    ↔ (KindTrace kind t × KindAt kind (counts t) p)
kind_push kind t p h =
    let whole = kind_counts kind (t ++ p ∷ []) h in
    let front = kind_counts kind t h in (
      λ k. (
        front.1 (follows_start (λ u p. KindAt kind (counts u) p) [] t p (whole.0 k)),
        follows_last (λ u p. KindAt kind (counts u) p) [] t p (whole.0 k),
      ),
      λ k. whole.1 (follows_end (λ u p. KindAt kind (counts u) p) [] t p (front.0 k.0) k.1),
    )
