use Rattle.std.proofs.Common.{◌≡◌, ◌∙◌, ap, ap₂, sym, subst, option_map, true, false, cond, ℕ}
use Rattle.tuple_schema.specs.Tuples.{lent}
use Rattle.tuple_schema.specs.declared.value.Value.{Value}
use Rattle.list_algebra.specs.Joins.{is_given}
use Rattle.kind_laws.specs.Accumulators.{IsBest, pick, value_at}
use Rattle.kind_laws.proofs.MakingLists.{column_within, value_lent, added_null, best_begun, best_step}
use Rattle.kind_laws.proofs.picking.best_of.Goals as goal

pub field-field-requires : goal.field-field-requires
field-field-requires c = column_within c.args.rows.now.columns c.row-row.result c.args.column c.row-row.ensures.fits c.requires.column

pub field-requires : goal.field-requires
field-requires c = column_within c.args.rows.now.columns c.row-before.result c.args.column c.row-before.ensures.fits c.requires.column

pub returns-then-not-is_given-clause-best : goal.returns-then-not-is_given-clause-best
returns-then-not-is_given-clause-best c = λ values is.
    let v : Value = value_at c.args.column c.args.rows.now.rows c.args.number in
    let same : v ≡ lent c.field-field.result = value_lent c.args.column c.args.rows.now.rows c.args.number c.row-row.result (lent c.field-field.result) c.row-row.ensures.row c.field-field.ensures.value in
    let null : is_given v ≡ false = ap is_given same ∙ sym c.is_given.ensures ∙ c.if-not-is_given.true in
    subst (IsBest c.args.by c.args.column c.args.rows.now.rows c.args.best) (sym (added_null values v null)) is

pub returns-in-None-clause-best : goal.returns-in-None-clause-best
returns-in-None-clause-best c = λ values is.
    let v : Value = value_at c.args.column c.args.rows.now.rows c.args.number in
    let same : v ≡ lent c.field-field.result = value_lent c.args.column c.args.rows.now.rows c.args.number c.row-row.result (lent c.field-field.result) c.row-row.ensures.row c.field-field.ensures.value in
    let given : is_given v ≡ true = ap is_given same ∙ sym c.is_given.ensures ∙ c.if-not-is_given.false in
    best_begun (pick c.args.by) values v given (ap (option_map (value_at c.args.column c.args.rows.now.rows)) (sym c.in-None.is) ∙ is)

pub returns-then-is_better-clause-best : goal.returns-then-is_better-clause-best
returns-then-is_better-clause-best c = λ values is.
    let at : ℕ → Value = value_at c.args.column c.args.rows.now.rows in
    let same : at c.args.number ≡ lent c.field-field.result = value_lent c.args.column c.args.rows.now.rows c.args.number c.row-row.result (lent c.field-field.result) c.row-row.ensures.row c.field-field.ensures.value in
    let before : at c.in-Some.former ≡ lent c.field.result = value_lent c.args.column c.args.rows.now.rows c.in-Some.former c.row-before.result (lent c.field.result) c.row-before.ensures.row c.field.ensures.value in
    let given : is_given (at c.args.number) ≡ true = ap is_given same ∙ sym c.is_given.ensures ∙ c.if-not-is_given.false in
    let step : pick c.args.by (at c.in-Some.former) (at c.args.number) ≡ at c.args.number =
    ap₂ (pick c.args.by) before same ∙ c.is_better.ensures ∙ ap (λ b. cond b (lent c.field-field.result) (lent c.field.result)) c.if-is_better.true ∙ sym same in
    best_step (pick c.args.by) values (at c.args.number) (at c.in-Some.former) (at c.args.number) given (ap (option_map at) (sym c.in-Some.is) ∙ is) step

pub returns-else-is_better-clause-best : goal.returns-else-is_better-clause-best
returns-else-is_better-clause-best c = λ values is.
    let at : ℕ → Value = value_at c.args.column c.args.rows.now.rows in
    let same : at c.args.number ≡ lent c.field-field.result = value_lent c.args.column c.args.rows.now.rows c.args.number c.row-row.result (lent c.field-field.result) c.row-row.ensures.row c.field-field.ensures.value in
    let before : at c.in-Some.former ≡ lent c.field.result = value_lent c.args.column c.args.rows.now.rows c.in-Some.former c.row-before.result (lent c.field.result) c.row-before.ensures.row c.field.ensures.value in
    let given : is_given (at c.args.number) ≡ true = ap is_given same ∙ sym c.is_given.ensures ∙ c.if-not-is_given.false in
    let step : pick c.args.by (at c.in-Some.former) (at c.args.number) ≡ at c.in-Some.former =
    ap₂ (pick c.args.by) before same ∙ c.is_better.ensures ∙ ap (λ b. cond b (lent c.field-field.result) (lent c.field.result)) c.if-is_better.false ∙ sym before in
    best_step (pick c.args.by) values (at c.args.number) (at c.in-Some.former) (at c.in-Some.former) given (ap (option_map at) (sym c.in-Some.is) ∙ is) step
