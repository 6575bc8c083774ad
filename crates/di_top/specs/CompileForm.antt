-- The forms `compile wide F` and `compile two F`: which commands compile, what is answered of an admitted one, and what is printed.
use Rattle.std.specs.Prelude.{◌≡◌, ◌⊎◌, ◌<◌, ℕ, List}
use Rattle.cmd_tree.specs.declared.tree.Proc.{Proc}
use Rattle.cmd_tree.specs.declared.command.Command.{Command}
use Rattle.net_core.specs.Wiring.{Circuit}
use Rattle.cmd_tree.specs.Meaning.{Trace}
use Rattle.process_laws.specs.Insensitive.{Insensitive}
use Rattle.di_grammar.specs.Outputs.{out_of}
use Rattle.cmd_tree.specs.declared.limits.TheConstants.{MAX_COMPONENTS}
use Rattle.count_sum.specs.declared.counts.Basis.{Basis}
use Rattle.di_compile.specs.Compiling.{total, IsOfForm, IsBuilt, IsNetworkOf}
use Rattle.di_top.specs.declared.outcome.Outcome.{Outcome}
use Rattle.di_top.specs.declared.outcome.Outcome.TheVariants.{Done, Refused, Limit}
use Rattle.di_top.specs.declared.outcome.Why.TheVariants.{NotThisForm}
use Rattle.net_text.specs.NetText.{net_text}
use Rattle.di_top.specs.Calls.{Reading}
use Rattle.di_top.specs.CommandFiles.{IsAdmittedText, FileHolds, FileGives, FileAdmits}

-- the commands of which a network is built in the basis
abbrev pub Compiles : Basis → List Proc → Type 0
Compiles basis procs = IsBuilt basis procs

-- What is answered of an admitted command: a network is built of it, or it is of no form of which one is, or the network would
-- have too many components.
abbrev pub CompileUses : Basis → List Proc → Outcome → Type 0
CompileUses basis procs outcome = (Compiles basis procs × (outcome ≡ Done)) ⊎ (((IsOfForm basis procs → ⊥) × (outcome ≡ Refused NotThisForm))
    ⊎ (IsOfForm basis procs × (MAX_COMPONENTS < total basis procs) × (outcome ≡ Limit 6 (total basis procs))))

abbrev pub CompileGives : Basis → Reading → List ℕ → Outcome → Type 0
CompileGives basis r file outcome = FileGives (CompileUses basis) r file outcome

abbrev pub CompileAdmits : Basis → Reading → List ℕ → Type 0
CompileAdmits basis r file = FileAdmits (Compiles basis) r file

-- the text is the netlist of this command in the basis
pub record IsNetlist (basis : Basis) (command : Command) (text : List ℕ) : Type 0 where
  pub net : Circuit
  pub network : IsNetworkOf basis command net
  pub is : text ≡ net_text net

-- the text is the netlist of the command in these bytes, whose traces keep the rules of delay-insensitivity
pub record IsCompiled (basis : Basis) (bytes text : List ℕ) : Type 0 where
  pub command : Command
  pub admitted : IsAdmittedText bytes command.names command.procs
  pub rules : Insensitive (Trace command.procs) (out_of command.procs)
  pub netlist : IsNetlist basis command text

-- the text is the netlist of the command in the file
pub record CompilePrints (basis : Basis) (r : Reading) (file text : List ℕ) : Type 0 where
  pub command : Command
  pub held : FileHolds r file command.names command.procs
  pub compiles : Compiles basis command.procs
  pub netlist : IsNetlist basis command text
