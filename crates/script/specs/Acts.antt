-- What the numbers of a script stand for.
use Rattle.std.specs.Prelude.{◌%◌, cond, ◌==◌}
use Rattle.script.specs.declared.parts.Act.{Act}
use Rattle.script.specs.declared.parts.Act.TheVariants.{Tick, Read, Write, Scrub, Replace, Rebuild, Unknown}
use Rattle.script.specs.declared.parts.Operation.{Operation}
pub use Rattle.notation.specs.Codes.{code_number}

-- 0 tick; 1 read x; 2 write x, filled with y mod 256; 3 scrub x; 4 replace x; 5 open x for at most y steps; others are unknown
abbrev pub act_of : Operation → Act
act_of o =
    cond (o.number == 0) Tick
    (cond (o.number == 1) (Read o.x)
    (cond (o.number == 2) (Write o.x (o.y % 256))
    (cond (o.number == 3) (Scrub o.x)
    (cond (o.number == 4) (Replace o.x)
    (cond (o.number == 5) (Rebuild o.x o.y) Unknown)))))
