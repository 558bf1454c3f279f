-- Rows that stand in a table for the meaning of a workflow.
use Rattle.std.specs.Prelude.{◌≡◌, List, ◌++◌, Bool, IsTrue}
use Rattle.list_algebra.specs.Bags.{Tuple, IsPartOf, SameBag}

-- the list begins with these rows, in their order
pub record Begins (rows whole : List Tuple) : Type 0 where
  pub others : List Tuple
  pub whole_is : whole ≡ rows ++ others

-- the rows are a sound state of a table for this meaning, whose order is fixed or not: they are a part of it, its
-- first ones where the order is fixed, and all of it where the table is ended
pub record Stands (fixed : Bool) (whole rows : List Tuple) (ended : Bool) : Type 0 where
  pub part : IsPartOf rows whole
  pub begins : IsTrue fixed → Begins rows whole
  pub all : IsTrue ended → SameBag rows whole

-- the rows are all of the meaning, each as often as there, and in its order where that is fixed
pub record IsAll (fixed : Bool) (whole rows : List Tuple) : Type 0 where
  pub bag : SameBag rows whole
  pub list : IsTrue fixed → rows ≡ whole
