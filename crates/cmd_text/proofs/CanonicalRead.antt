-- The canonical text of a command reads as that command.
use Rattle.std.proofs.Common.{ℕ, ◌≤◌, List, [], ◌∷◌, length, sym, ap, ◌∙◌, subst}
use Rattle.cmd_tree.specs.declared.tree.Proc.{Proc}
use Rattle.cmd_tree.specs.Limits.{IsCommand}
use Rattle.cmd_text.specs.Token.{Token, End}
use Rattle.cmd_text.specs.Names.{names_after}
use Rattle.cmd_text.specs.Fault.{IsShallow}
use Rattle.cmd_text.specs.Source.{IsTextOfBytes, IsShallowText}
use Rattle.cmd_text.specs.Printed.{main_text, main_sentence}
use Rattle.cmd_text.proofs.Spelling.{text_scanned}
use Rattle.cmd_text.proofs.MainWritten.{text_of_main}
use Rattle.cmd_text.proofs.PrintedShape.{written_back, written_well}
use Rattle.cmd_text.proofs.PrintedNames.{printed_names}
use Rattle.cmd_text.proofs.PrintedDepth.{printed_shallow}
use Rattle.cmd_text.proofs.PrintedLength.{printed_short}

pub canonical_read : (names : List (List ℕ)) (procs : List Proc) → IsCommand names procs
    → IsTextOfBytes (main_text names procs) names (main_sentence procs ∷ []) × IsShallowText (main_text names procs) × (length (main_text names procs) ≤ 1048576)
canonical_read names procs c =
    let s = text_scanned names procs c in (
      record {
        well = s.fault;
        text = record {
          named = printed_names names procs c ∙ ap (λ (ts : List Token). names_after [] End ts) (sym s.toks);
          spelled = text_of_main names procs c (written_back names procs c) (written_well names procs c);
        };
      },
      subst (λ (ts : List Token). IsShallow 0 ts) (sym s.toks) (printed_shallow names procs c),
      printed_short names procs c,
    )
