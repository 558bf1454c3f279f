use Rattle.std.proofs.Common.{sym, string_bytes}
use Rattle.commands.proofs.Batches.{four_words}
use Rattle.commands.proofs.words.batch_in.Goals as goal

pub returns-in-len4-clause-batch : goal.returns-in-len4-clause-batch
returns-in-len4-clause-batch c =
    rw (c.given_batch.ensures.batch, c.as_str-in-len4.ensures.value, c.as_str-in-len4-2.ensures.value, c.as_str-in-len4-3.ensures.value)
    (sym (four_words string_bytes c.args.words.now c.command-item-then-words-lt5.result c.option-item.result c.number-item.result
    c.in-len4.len_at_least c.in-len4.len_below c.command-item-then-words-lt5.is c.option-item.is c.number-item.is))
