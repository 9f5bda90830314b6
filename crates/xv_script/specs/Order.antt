-- Lines of which the fields are one guest's name, by what they ask of the guest.
use Rattle.std.specs.Prelude.{ℕ, Option, Some, None, List, [], ◌∷◌, Result, Err}
use Rattle.xv_script.specs.declared.command.Command.{Command}
use Rattle.xv_script.specs.declared.command.Command.TheVariants as command
use Rattle.xv_script.specs.declared.fault.ScriptKind.{ScriptKind}
use Rattle.xv_script.specs.declared.fault.ScriptKind.TheVariants.{Word}
use Rattle.xv_script.specs.declared.line.Order.{Order}
use Rattle.xv_script.specs.declared.line.Order.TheVariants as order
use Rattle.xv_script.specs.Field.{Guest}
use Rattle.xv_script.specs.Row.{command_by}

-- the command that gives an order to a guest
abbrev pub to_guest : Order → List ℕ → Command
to_guest order.Kick name = command.Kick name
to_guest order.Pause name = command.Pause name
to_guest order.Resume name = command.Resume name
to_guest order.Reset name = command.Reset name
to_guest order.Halt name = command.Halt name
to_guest order.Destroy name = command.Destroy name
to_guest order.Digest name = command.Digest name
to_guest order.Audit name = command.Audit name

-- the command of the fields behind the word of an order
abbrev pub ordered : Option Order → List (List ℕ) → Result Command ScriptKind
ordered None words = Err Word
ordered (Some order) words = command_by (Guest ∷ []) (to_guest order) words
