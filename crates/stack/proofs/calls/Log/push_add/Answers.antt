use Rattle.std.proofs.Common.{◌≡◌, Some, Ok, Err, Result, decimal, sym, ap, refl, arith}
use Rattle.std.proofs.lemmas.Fmt.{decimal_digit}
use Rattle.std.proofs.lemmas.Grind.{common_steps}
use Rattle.faultplan.specs.declared.plan.PlanRefusal.{PlanRefusal}
use Rattle.faultplan.specs.Plans.{plan_number, add_answer}
use Rattle.stack.specs.Lines.{answer_output}
use Rattle.stack.proofs.calls.Log.push_add.Goals as goal

-- what is printed of an answer is its number
number_output : (r : Result Unit PlanRefusal) → answer_output (λ e. Some (decimal (plan_number e))) r ≡ Some (decimal (add_answer r))
number_output (Ok u) = ap Some (sym (decimal_digit 0 (omega arith)))
number_output (Err e) = refl

pub returns : goal.returns
returns c = let n = number_output c.args.answer in grind (arith, common_steps, n)
