-- What is found of a flow, without where it lies in memory.
use Rattle.commands.specs.declared.find.Found.{Found}
use Rattle.commands.specs.declared.words.Command.{Command}
use Rattle.commands.specs.declared.words.Command.TheVariants as command
use Rattle.commands.specs.Commands.{Asked, load, dump, FlowText}

abbrev pub flow_text_of : Found → FlowText
flow_text_of found = record { text = found.text.items; flow = found.flow }

-- the command
abbrev pub asked_of : Command → Asked
asked_of (command.Load batch) = load batch
asked_of command.Dump = dump
