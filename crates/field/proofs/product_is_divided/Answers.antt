use Rattle.field.proofs.Division.{divided_product}
use Rattle.field.proofs.product_is_divided.Goals as goal

pub returns : goal.returns
returns c = record { theorem = λ a b h k. divided_product a b h }
