-- What a line says.
use Rattle.std.specs.Prelude.{Result, Ok, Err}

-- of a line that says such a thing, or breaks a rule
abbrev pub said_by : {A B Rule : Type 0} → (A → B) → Result A Rule → Result B Rule
said_by f (Ok x) = Ok (f x)
said_by f (Err rule) = Err rule
