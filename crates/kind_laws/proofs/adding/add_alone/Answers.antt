use Rattle.std.proofs.Common.{◌≡◌, ◌∙◌, ◌++◌, length, sym, ap}
use Rattle.list_algebra.specs.Joins.{nulls}
use Rattle.kind_laws.proofs.Rows.{fits-length}
use Rattle.kind_laws.proofs.Added.{front_fits}
use Rattle.kind_laws.proofs.adding.add_alone.Goals as goal

pub add_row-requires : goal.add_row-requires
add_row-requires c = record { fits = front_fits c.args.made.now.columns c.args.made.now.begun c.args.left.now (nulls c.args.count) c.requires.begins c.requires.fits }

pub end_row-requires : goal.end_row-requires
end_row-requires c =
    let left : c.add_row.new.made.begun ≡ c.args.left.now = c.in_ok-add_row.ensures.begun ∙ ap (λ vs. vs ++ c.args.left.now) c.requires.begins in
    let both : c.add_nulls.new.made.begun ≡ c.args.left.now ++ nulls c.args.count = c.in_ok-add_nulls.ensures.begun ∙ ap (λ vs. vs ++ nulls c.args.count) left in
    let columns = c.in_ok-add_nulls.ensures.columns ∙ c.in_ok-add_row.ensures.columns in
    record { whole = ap length both ∙ sym (fits-length _ _ c.requires.fits) ∙ ap length (sym columns) }
