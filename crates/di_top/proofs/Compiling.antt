-- From what was read of a file to what is answered and printed of it.
use Rattle.std.proofs.Common.{◌≡◌, ◌<◌, ℕ, List, Some, refl, sym, subst, ap, ◌∙◌, inl, inr, IfErr, IsErrAnd}
use Rattle.std.proofs.Math.Path.{fun_ext}
use Rattle.std.specs.Prelude.{◌⊎◌, Ok, Err, Result}
use Rattle.cmd_tree.specs.declared.command.Command.{Command}
use Rattle.cmd_tree.specs.declared.tree.Proc.{Proc}
use Rattle.net_core.specs.Wiring.{Circuit}
use Rattle.cmd_tree.specs.declared.limits.TheConstants.{MAX_COMPONENTS}
use Rattle.di_compile.specs.Compiling.{total, IsOfForm, IsNetworkOf}
use Rattle.count_sum.specs.declared.counts.Basis.{Basis}
use Rattle.di_top.specs.declared.outcome.Outcome.{Outcome}
use Rattle.di_top.specs.declared.outcome.Outcome.TheVariants.{Done, Refused, NoMemory, Limit}
use Rattle.di_top.specs.declared.outcome.Why.TheVariants.{NotThisForm}
use Rattle.net_text.specs.NetText.{net_text}
use Rattle.di_top.specs.Requests.{Compile, Check, Count}
use Rattle.di_top.specs.Calls.{Reading, Loaded}
use Rattle.di_top.specs.CommandFiles.{command_cap, StopsWith, FileStops, Bytes, FileHolds, FileGives, Stopped, Taken}
use Rattle.di_top.specs.CompileForm.{Compiles}
use Rattle.basic_kinds.specs.Sorts.{Sort}
use Rattle.count_sum.specs.declared.counts.Counts.{Counts}
use Rattle.count_sum.specs.Counts.{of_sort, all_sorts, AreCounts}
use Rattle.di_top.specs.CheckForm.{counts_of, counts_text}
use Rattle.di_top.specs.CountForm.{sums_of, sums_text}
use Rattle.di_top.specs.Outcomes.{Gives, Prints}
use Rattle.di_top.specs.Plans.{IsStop}
use Rattle.di_top.proofs.Stops.{stops_are_stops}

pub compile_done : (basis : Basis) (r : Reading) (file : List ℕ) (command : Command) (net : Circuit) → FileHolds r file command.names command.procs
    → Compiles basis command.procs × IsNetworkOf basis command net → Gives (Some (Compile basis file)) r Done × Prints (Some (Compile basis file)) r (net_text net)
compile_done basis r file command net h (built, network) = (
  inr (Taken command.names command.procs h (inl (built, refl))),
  record { command = command; held = h; compiles = built; netlist = record { net = net; network = network; is = refl } },
)

-- an admitted command of no form of which a network is built, or whose network would have too many components, or memory is missing
pub not_built : (basis : Basis) (r : Reading) (file : List ℕ) (command : Command) → FileHolds r file command.names command.procs → (stop : Outcome)
    → (stop ≡ NoMemory) ⊎ (((IsOfForm basis command.procs → ⊥) × (stop ≡ Refused NotThisForm))
    ⊎ (IsOfForm basis command.procs × (MAX_COMPONENTS < total basis command.procs) × (stop ≡ Limit 6 (total basis command.procs)))) → IsStop stop × Gives (Some (Compile basis file)) r stop
not_built basis r file command h stop (inl e) = let P : Outcome → Type 0 = IsStop in (subst P (sym e) tt, inl e)
not_built basis r file command h stop (inr (inl (other, e))) =
    let P : Outcome → Type 0 = IsStop in (subst P (sym e) tt, inr (Taken command.names command.procs h (inr (inl (other, e)))))
not_built basis r file command h stop (inr (inr (form, many, e))) =
    let P : Outcome → Type 0 = IsStop in (subst P (sym e) tt, inr (Taken command.names command.procs h (inr (inr (form, many, e)))))

pub check_done : (r : Reading) (file : List ℕ) (command : Command) → FileHolds r file command.names command.procs
    → Gives (Some (Check file)) r Done × Prints (Some (Check file)) r (counts_text (counts_of command.names command.procs))
check_done r file command h = (inr (Taken command.names command.procs h refl), record { names = command.names; procs = command.procs; held = h; is = refl })

pub count_done : (basis : Basis) (r : Reading) (file : List ℕ) (command : Command) (sums : Counts) → FileHolds r file command.names command.procs → AreCounts command basis sums → (total : ℕ) → total ≡ all_sorts (of_sort sums)
    → Gives (Some (Count basis file)) r Done × Prints (Some (Count basis file)) r (sums_text (of_sort sums) total)
count_done basis r file command sums h counts total whole =
    let many = sums_of basis command.names command.procs in
    let each : of_sort sums ≡ many = fun_ext counts.each in
    (inr (Taken command.names command.procs h refl), record { names = command.names; procs = command.procs; held = h; is = ap (sums_text (of_sort sums)) whole ∙ ap (λ (f : Sort → ℕ). sums_text f (all_sorts f)) each })

-- a file that gives no admitted command
pub file_stops : (Used : List Proc → Outcome → Type 0) (r : Reading) (file : List ℕ) (stop : Outcome)
    → IsStop stop × ((stop ≡ NoMemory) ⊎ FileStops r file stop) → IsStop stop × ((stop ≡ NoMemory) ⊎ FileGives Used r file stop)
file_stops Used r file stop (i, inl e) = (i, inl e)
file_stops Used r file stop (i, inr s) = (i, inr (Stopped s))

-- bytes that were loaded and give none
pub bytes_stop : (r : Reading) (file bytes : List ℕ) (stop : Outcome) → Loaded r file command_cap bytes
    → ((stop ≡ NoMemory) ⊎ StopsWith bytes stop) → IsStop stop × ((stop ≡ NoMemory) ⊎ FileStops r file stop)
bytes_stop r file bytes stop l (inl e) = let P : Outcome → Type 0 = IsStop in (subst P (sym e) tt, inl e)
bytes_stop r file bytes stop l (inr s) = (stops_are_stops bytes stop s, inr (Bytes bytes l s))

pub if_err : {A E : Type 0} (r : Result A E) (P Q : E → Type 0) → ((x : E) → P x → Q x) → IsErrAnd r P → IfErr r Q
if_err (Ok x) P Q f h = absurd h
if_err (Err e) P Q f h = f e h
