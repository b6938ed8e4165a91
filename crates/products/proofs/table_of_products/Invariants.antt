use Rattle.std.proofs.Common.{◌≡◌, string_bytes}
use Rattle.products.specs.Texts.{line, texts}
use Rattle.products.proofs.table_of_products.Given as goal

abbrev pub invariant-loop-a : goal.invariant-loop-a
invariant-loop-a l = string_bytes l.text ≡ texts line l.a
