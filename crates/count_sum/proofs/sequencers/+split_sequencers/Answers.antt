use Rattle.std.proofs.Common.{◌≡◌, ℕ, ◌+◌, ◌-◌, ◌*◌, ◌/◌, ◌≤◌, List, subst, sym, ap, ◌∙◌, arith}
use Rattle.std.proofs.lemmas.Result.{on_ok_weaker}
use Rattle.basic_kinds.specs.Sorts.{Sort, Iwires, Forks, Merges, Sequencers}
use Rattle.basic_kinds.specs.ShapeParts.{half, one_column}
use Rattle.basic_kinds.specs.Sums.{so_many}
use Rattle.shape_parts.proofs.Layered.{half_near, half_is}
use Rattle.count_sum.specs.Mirror.Adding.{Adds, HasRoom}
use Rattle.count_sum.specs.Mirror.Waits.{IsInRange, of_wait, of_sequencer, of_requests}
use Rattle.count_sum.proofs.AddSteps.{adds_same, adds_both, adds_none, adds_one, room_same, room_first, room_next, room_one}
use Rattle.count_sum.proofs.WaitLayers.{halves_of, seq_halves, seq_of_two, seq_of_more, requests_none, requests_some}
use Rattle.count_sum.proofs.WaitShapes.{column_range}
use Rattle.count_sum.proofs.sequencers.+split_sequencers.Goals as goal

-- ---- a SEQ

pub add_sequencer-add-requires : goal.add_sequencer-add-requires
add_sequencer-add-requires t c = room_one Sequencers 1 (room_first (so_many 1 Sequencers) (halves_of c.args.requests) (room_same (λ s. seq_halves c.args.requests s c.requires.some) c.requires.room))

pub add_sequencer-add_requests-requires : goal.add_sequencer-add_requests-requires
add_sequencer-add_requests-requires t c =
    let k : ℕ = c.args.requests in
    let h : ℕ = k - k / 2 in
    let near : (k ≤ 2 * half k) × (2 * half k ≤ k + 1) = half_near k in
    let is : h ≡ half k = half_is k in
    let a = of_requests h in
    let b = of_requests (k - h) in
    let e = λ (s : Sort). seq_of_more k s c.if-requests-gt2.true ∙ sym (ap (λ (n : ℕ). so_many 1 Sequencers s + (of_requests n s + of_requests (k - n) s)) is) in
    let one : Adds c.args.counts.now c.add.new.self (so_many 1 Sequencers) = adds_one Sequencers 1 c.add.ensures in
    let rest : HasRoom c.add.new.self (λ s. a s + b s) = room_next (so_many 1 Sequencers) (λ s. a s + b s) one (room_same e c.requires.room) in
    (omega (arith, c.decreases, c.if-requests-gt2.true, is, near.1), (omega (arith, c.requires.few), room_first a b rest))

pub add_sequencer-add_requests-requires-then-requests-gt2 : goal.add_sequencer-add_requests-requires-then-requests-gt2
add_sequencer-add_requests-requires-then-requests-gt2 t c =
    let k : ℕ = c.args.requests in
    let h : ℕ = k - k / 2 in
    let near : (k ≤ 2 * half k) × (2 * half k ≤ k + 1) = half_near k in
    let is : h ≡ half k = half_is k in
    let a = of_requests h in
    let b = of_requests (k - h) in
    let e = λ (s : Sort). seq_of_more k s c.if-requests-gt2.true ∙ sym (ap (λ (n : ℕ). so_many 1 Sequencers s + (of_requests n s + of_requests (k - n) s)) is) in
    let one : Adds c.args.counts.now c.add.new.self (so_many 1 Sequencers) = adds_one Sequencers 1 c.add.ensures in
    let rest : HasRoom c.add.new.self (λ s. a s + b s) = room_next (so_many 1 Sequencers) (λ s. a s + b s) one (room_same e c.requires.room) in
    (omega (arith, c.decreases, c.if-requests-gt2.true, is, near.0), (omega (arith, c.requires.few), room_next a b c.in_ok-add_requests.ensures rest))

pub add_sequencer-returns-in_ok-add_requests-2 : goal.add_sequencer-returns-in_ok-add_requests-2
add_sequencer-returns-in_ok-add_requests-2 t c =
    let k : ℕ = c.args.requests in
    let h : ℕ = k - k / 2 in
    let near : (k ≤ 2 * half k) × (2 * half k ≤ k + 1) = half_near k in
    let is : h ≡ half k = half_is k in
    let a = of_requests h in
    let b = of_requests (k - h) in
    let e = λ (s : Sort). seq_of_more k s c.if-requests-gt2.true ∙ sym (ap (λ (n : ℕ). so_many 1 Sequencers s + (of_requests n s + of_requests (k - n) s)) is) in
    let one : Adds c.args.counts.now c.add.new.self (so_many 1 Sequencers) = adds_one Sequencers 1 c.add.ensures in
    let rest : HasRoom c.add.new.self (λ s. a s + b s) = room_next (so_many 1 Sequencers) (λ s. a s + b s) one (room_same e c.requires.room) in
    adds_same (λ s. sym (e s)) (adds_both one (adds_both c.in_ok-add_requests.ensures c.in_ok-add_requests-2.ensures))

pub add_sequencer-returns-else-requests-gt2 : goal.add_sequencer-returns-else-requests-gt2
add_sequencer-returns-else-requests-gt2 t c =
    let one : Adds c.args.counts.now c.add.new.self (so_many 1 Sequencers) = adds_one Sequencers 1 c.add.ensures in
    adds_same (λ s. sym (seq_of_two c.args.requests s c.requires.some c.if-requests-gt2.false)) (adds_both one (adds_none c.add.new.self))

-- ---- a group of requests

pub add_requests-returns-then-requests-lt2 : goal.add_requests-returns-then-requests-lt2
add_requests-returns-then-requests-lt2 t c = adds_same (λ s. sym (requests_none c.args.requests s c.if-requests-lt2.true)) (adds_none c.args.counts.now)

pub add_requests-add_sequencer-requires : goal.add_requests-add_sequencer-requires
add_requests-add_sequencer-requires t c =
    let k : ℕ = c.args.requests in
    let w = of_wait k 1 (one_column k) in
    let r0 = λ (s : Sort). so_many 1 Iwires s + w s in
    let r1 = λ (s : Sort). so_many (2 * (k - 1)) Merges s + r0 s in
    let r2 = λ (s : Sort). so_many (2 * k) Forks s + r1 s in
    let room : HasRoom c.args.counts.now (λ s. of_sequencer k s + r2 s) = room_same (λ s. requests_some k s c.if-requests-lt2.false) c.requires.room in
    (omega (arith, c.decreases), (omega (arith, c.if-requests-lt2.false), (c.requires.few, room_first (of_sequencer k) r2 room)))

pub add_requests-add-requires : goal.add_requests-add-requires
add_requests-add-requires t c =
    let k : ℕ = c.args.requests in
    let w = of_wait k 1 (one_column k) in
    let r0 = λ (s : Sort). so_many 1 Iwires s + w s in
    let r1 = λ (s : Sort). so_many (2 * (k - 1)) Merges s + r0 s in
    let r2 = λ (s : Sort). so_many (2 * k) Forks s + r1 s in
    let room : HasRoom c.args.counts.now (λ s. of_sequencer k s + r2 s) = room_same (λ s. requests_some k s c.if-requests-lt2.false) c.requires.room in
    let room2 : HasRoom c.add_sequencer.new.counts r2 = room_next (of_sequencer k) r2 c.in_ok-add_sequencer.ensures room in
    room_one Forks (2 * k) (room_first (so_many (2 * k) Forks) r1 room2)

pub add_requests-add-requires-2 : goal.add_requests-add-requires-2
add_requests-add-requires-2 t c =
    let k : ℕ = c.args.requests in
    let w = of_wait k 1 (one_column k) in
    let r0 = λ (s : Sort). so_many 1 Iwires s + w s in
    let r1 = λ (s : Sort). so_many (2 * (k - 1)) Merges s + r0 s in
    let r2 = λ (s : Sort). so_many (2 * k) Forks s + r1 s in
    let room : HasRoom c.args.counts.now (λ s. of_sequencer k s + r2 s) = room_same (λ s. requests_some k s c.if-requests-lt2.false) c.requires.room in
    let room2 : HasRoom c.add_sequencer.new.counts r2 = room_next (of_sequencer k) r2 c.in_ok-add_sequencer.ensures room in
    let forks : Adds c.add_sequencer.new.counts c.add.new.self (so_many (2 * k) Forks) = adds_one Forks (2 * k) c.add.ensures in
    let room1 : HasRoom c.add.new.self r1 = room_next (so_many (2 * k) Forks) r1 forks room2 in
    room_one Merges (2 * (k - 1)) (room_first (so_many (2 * (k - 1)) Merges) r0 room1)

pub add_requests-add-requires-3 : goal.add_requests-add-requires-3
add_requests-add-requires-3 t c =
    let k : ℕ = c.args.requests in
    let w = of_wait k 1 (one_column k) in
    let r0 = λ (s : Sort). so_many 1 Iwires s + w s in
    let r1 = λ (s : Sort). so_many (2 * (k - 1)) Merges s + r0 s in
    let r2 = λ (s : Sort). so_many (2 * k) Forks s + r1 s in
    let room : HasRoom c.args.counts.now (λ s. of_sequencer k s + r2 s) = room_same (λ s. requests_some k s c.if-requests-lt2.false) c.requires.room in
    let room2 : HasRoom c.add_sequencer.new.counts r2 = room_next (of_sequencer k) r2 c.in_ok-add_sequencer.ensures room in
    let forks : Adds c.add_sequencer.new.counts c.add.new.self (so_many (2 * k) Forks) = adds_one Forks (2 * k) c.add.ensures in
    let room1 : HasRoom c.add.new.self r1 = room_next (so_many (2 * k) Forks) r1 forks room2 in
    let merges : Adds c.add.new.self c.add-2.new.self (so_many (2 * (k - 1)) Merges) = adds_one Merges (2 * (k - 1)) c.add-2.ensures in
    let room0 : HasRoom c.add-2.new.self r0 = room_next (so_many (2 * (k - 1)) Merges) r0 merges room1 in
    room_one Iwires 1 (room_first (so_many 1 Iwires) w room0)

pub add_requests-add_wait-requires-clause-shape : goal.add_requests-add_wait-requires-clause-shape
add_requests-add_wait-requires-clause-shape t c =
    subst (IsInRange c.args.requests 1) (sym (c.as_slice.ensures.value ∙ c.in_ok-column.ensures)) (column_range c.args.requests c.requires.few)

pub add_requests-add_wait-requires-clause-room : goal.add_requests-add_wait-requires-clause-room
add_requests-add_wait-requires-clause-room t c =
    let k : ℕ = c.args.requests in
    let w = of_wait k 1 (one_column k) in
    let r0 = λ (s : Sort). so_many 1 Iwires s + w s in
    let r1 = λ (s : Sort). so_many (2 * (k - 1)) Merges s + r0 s in
    let r2 = λ (s : Sort). so_many (2 * k) Forks s + r1 s in
    let room : HasRoom c.args.counts.now (λ s. of_sequencer k s + r2 s) = room_same (λ s. requests_some k s c.if-requests-lt2.false) c.requires.room in
    let room2 : HasRoom c.add_sequencer.new.counts r2 = room_next (of_sequencer k) r2 c.in_ok-add_sequencer.ensures room in
    let forks : Adds c.add_sequencer.new.counts c.add.new.self (so_many (2 * k) Forks) = adds_one Forks (2 * k) c.add.ensures in
    let room1 : HasRoom c.add.new.self r1 = room_next (so_many (2 * k) Forks) r1 forks room2 in
    let merges : Adds c.add.new.self c.add-2.new.self (so_many (2 * (k - 1)) Merges) = adds_one Merges (2 * (k - 1)) c.add-2.ensures in
    let room0 : HasRoom c.add-2.new.self r0 = room_next (so_many (2 * (k - 1)) Merges) r0 merges room1 in
    let wires : Adds c.add-2.new.self c.add-3.new.self (so_many 1 Iwires) = adds_one Iwires 1 c.add-3.ensures in
    let column : c.as_slice.result.now ≡ one_column k = c.as_slice.ensures.value ∙ c.in_ok-column.ensures in
    room_same (λ s. ap (λ (p : List (ℕ × ℕ)). of_wait k 1 p s) (sym column)) (room_next (so_many 1 Iwires) w wires room0)

pub add_requests-returns : goal.add_requests-returns
add_requests-returns t c =
    let k : ℕ = c.args.requests in
    let forks : Adds c.add_sequencer.new.counts c.add.new.self (so_many (2 * k) Forks) = adds_one Forks (2 * k) c.add.ensures in
    let merges : Adds c.add.new.self c.add-2.new.self (so_many (2 * (k - 1)) Merges) = adds_one Merges (2 * (k - 1)) c.add-2.ensures in
    let wires : Adds c.add-2.new.self c.add-3.new.self (so_many 1 Iwires) = adds_one Iwires 1 c.add-3.ensures in
    let column : c.as_slice.result.now ≡ one_column k = c.as_slice.ensures.value ∙ c.in_ok-column.ensures in
    on_ok_weaker c.add_wait.result
    (λ h. adds_same (λ s. ap (λ (p : List (ℕ × ℕ)). of_sequencer k s + (so_many (2 * k) Forks s + (so_many (2 * (k - 1)) Merges s + (so_many 1 Iwires s + of_wait k 1 p s)))) column ∙ sym (requests_some k s c.if-requests-lt2.false))
    (adds_both c.in_ok-add_sequencer.ensures (adds_both forks (adds_both merges (adds_both wires h))))) c.add_wait.ensures
