-- Each worked case is computed.
use Rattle.std.proofs.Common.{refl}
use lib.Bits.{xor_zero_r}
use Rattle.code.specs.Blocks.{◌⊕◌, zeros}
use Rattle.field.specs.Field.{product, times, power, exponent, log, inverse}
use Rattle.field.specs.Mixing.{mixed, unmixed, unpaired}
use Rattle.parity.specs.Stripe.{sum, column, gaps}
use Rattle.prime.specs.Rows.{rows}
use Rattle.worked.specs.Cases.{WorkedCases}

pub worked_cases : WorkedCases
unfolding ◌⊕◌ zeros product times power exponent log inverse mixed unmixed unpaired sum column gaps rows
worked_cases = record {
  doubled = refl;
  twelfth = refl;
  p_of_three_five = refl;
  q_of_three_five = refl;
  three_recovered = refl;
  five_recovered = refl;
  rdp_row_1 = λ f. simp xor_zero_r;
  rdp_row_15 = λ f. simp xor_zero_r;
  evenodd_row_0 = λ f. simp xor_zero_r;
  evenodd_all_rows = λ f. refl;
  rotating_column_4 = refl;
}
