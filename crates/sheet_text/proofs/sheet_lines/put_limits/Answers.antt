-- The words and the limits are the decimals of the class densities. Assumes nothing.
use Rattle.arithmetic.proofs.Kit.{of_bits, rules, append_assoc}
use Rattle.pages.proofs.Putting.{puts}
use Rattle.decimals.specs.Decimal.{last_digits, digits_within, digits, nearest_count, count_text, decimal_text}
use Rattle.trim.specs.Classes.{class_densities}
use Rattle.sheet_text.specs.Lines.{limit_words, limit_line, limit_lines}
use Rattle.sheet_text.proofs.sheet_lines.put_limits.Goals as goal

pub returns : goal.returns
unfolding of_bits last_digits digits_within digits nearest_count count_text decimal_text class_densities limit_words limit_line limit_lines
returns c = search (rules, puts, append_assoc)
