use Rattle.row_codec.proofs.Readings.{are_bytes, value_leaves}
use Rattle.row_codec.proofs.decode.skip_value.Goals as goal

pub overflow_sub-result : goal.overflow_sub-result
overflow_sub-result c = (value_leaves _ _ _ _ (are_bytes _ c.type_inv.bytes) c.in_ok-rest.ensures.value).shorter

pub returns-clause-value : goal.returns-clause-value
returns-clause-value c = (_, (value_leaves _ _ _ _ (are_bytes _ c.type_inv.bytes) c.in_ok-rest.ensures.value).begins)
