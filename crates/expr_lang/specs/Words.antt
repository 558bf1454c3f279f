-- The words of clauses, from one place.
pub use Rattle.expr_lang.specs.Trees.{IsPlain, Tree, chosen, coalesced, joined, tree_of}
pub use Rattle.expr_lang.specs.Kinds.{are_comparable, arithmetic, as_number, choice_kind, column_kind}
pub use Rattle.expr_lang.specs.Kinds.{columns_in, comparison, is_same_kind, is_unknown, kind_of, length_kind}
pub use Rattle.expr_lang.specs.Kinds.{null_test, number_kind, number_with, one_kind, operator_kind, places_by}
pub use Rattle.expr_lang.specs.Kinds.{places_of, same_number, texts, truth_kind, truths, typing}
pub use Rattle.expr_lang.specs.Values.{Meaning, asks, both, byte_count, bytes, choice, decided, either}
pub use Rattle.expr_lang.specs.Values.{first_of, followed_by, is_nothing, is_something, joined_by, meaning}
pub use Rattle.expr_lang.specs.Values.{meaning_at, meaning_in, minus, nothing, opposite, opposite_number}
pub use Rattle.expr_lang.specs.Values.{ordering, over, place_of, plus, rounded, size, tested, times}
pub use Rattle.expr_lang.specs.Values.{times_ten, truly, truth_in, truth_of, units, units_if, value_in}
pub use Rattle.expr_lang.specs.Values.{value_of, with_places}
pub use Rattle.expr_lang.specs.Views.{IsShort, IsSmall, applied, seen, seen_number}
pub use Rattle.expr_lang.specs.Fits.{IsTyped, LeavesFit, ValueFits}
