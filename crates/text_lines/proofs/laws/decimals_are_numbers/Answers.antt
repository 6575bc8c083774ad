use Rattle.text_lines.proofs.Values.{decimal_is, value-decimal, decimal-value}
use Rattle.text_lines.proofs.laws.decimals_are_numbers.Goals as goal

pub returns-clause-written : goal.returns-clause-written
returns-clause-written c n h = (decimal_is n h, value-decimal n h)

pub returns-clause-read : goal.returns-clause-read
returns-clause-read c bytes d h = decimal-value bytes d h
