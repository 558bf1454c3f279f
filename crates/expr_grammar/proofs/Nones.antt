-- What a kind that can't stand in a state gives.
use Rattle.std.proofs.Common.{◌≡◌, ◌≢◌, ℕ, List, None, refl}
use Rattle.expr_grammar.specs.declared.state.Frame.TheVariants as f
use Rattle.expr_grammar.specs.Machine.{parted_by, takes_opening, takes_after, takes_is, takes_is_not, takes_scaled}
use Rattle.expr_grammar.specs.declared.expr.Expr.{Expr}
use Rattle.expr_grammar.specs.declared.expr.Operator.{Operator}
use Rattle.expr_grammar.specs.declared.state.Function.{Function}
use Rattle.expr_grammar.specs.declared.state.Kind.{Kind}
use Rattle.expr_grammar.specs.declared.state.Kind.TheVariants as kind
use Rattle.expr_grammar.specs.declared.state.Frame.{Frame}

pub is_none : (x : Expr) (fs : List Frame) (k : Kind) → k ≢ kind.Not → k ≢ kind.Null → takes_is x fs k ≡ None
is_none x fs kind.Number a b = refl
is_none x fs kind.Text a b = refl
is_none x fs kind.Name a b = refl
is_none x fs (kind.Infix o) a b = refl
is_none x fs kind.Is a b = refl
is_none x fs kind.Not a b = absurd (a refl)
is_none x fs kind.Null a b = absurd (b refl)
is_none x fs (kind.Call c) a b = refl
is_none x fs kind.Open a b = refl
is_none x fs kind.Close a b = refl
is_none x fs kind.Comma a b = refl
is_none x fs kind.Other a b = refl

pub is_not_none : (x : Expr) (fs : List Frame) (k : Kind) → k ≢ kind.Null → takes_is_not x fs k ≡ None
is_not_none x fs kind.Number a = refl
is_not_none x fs kind.Text a = refl
is_not_none x fs kind.Name a = refl
is_not_none x fs (kind.Infix o) a = refl
is_not_none x fs kind.Is a = refl
is_not_none x fs kind.Not a = refl
is_not_none x fs kind.Null a = absurd (a refl)
is_not_none x fs (kind.Call c) a = refl
is_not_none x fs kind.Open a = refl
is_not_none x fs kind.Close a = refl
is_not_none x fs kind.Comma a = refl
is_not_none x fs kind.Other a = refl

pub scaled_none : (x : Expr) (n : ℕ) (fs : List Frame) (k : Kind) → k ≢ kind.Close → takes_scaled x n fs k ≡ None
scaled_none x n fs kind.Number a = refl
scaled_none x n fs kind.Text a = refl
scaled_none x n fs kind.Name a = refl
scaled_none x n fs (kind.Infix o) a = refl
scaled_none x n fs kind.Is a = refl
scaled_none x n fs kind.Not a = refl
scaled_none x n fs kind.Null a = refl
scaled_none x n fs (kind.Call c) a = refl
scaled_none x n fs kind.Open a = refl
scaled_none x n fs kind.Close a = absurd (a refl)
scaled_none x n fs kind.Comma a = refl
scaled_none x n fs kind.Other a = refl

pub opening_none : (g : Function) (fs : List Frame) (k : Kind) → k ≢ kind.Open → takes_opening g fs k ≡ None
opening_none g fs kind.Number a = refl
opening_none g fs kind.Text a = refl
opening_none g fs kind.Name a = refl
opening_none g fs (kind.Infix o) a = refl
opening_none g fs kind.Is a = refl
opening_none g fs kind.Not a = refl
opening_none g fs kind.Null a = refl
opening_none g fs (kind.Call c) a = refl
opening_none g fs kind.Open a = absurd (a refl)
opening_none g fs kind.Close a = refl
opening_none g fs kind.Comma a = refl
opening_none g fs kind.Other a = refl

pub after_none : (l : ℕ) (x : Expr) (fs : List Frame) (k : Kind) → ((o : Operator) → k ≢ kind.Infix o) → k ≢ kind.Is → k ≢ kind.Close → k ≢ kind.Comma → takes_after l x fs k ≡ None
after_none l x fs kind.Number a b c2 d = refl
after_none l x fs kind.Text a b c2 d = refl
after_none l x fs kind.Name a b c2 d = refl
after_none l x fs (kind.Infix o) a b c2 d = absurd (a o refl)
after_none l x fs kind.Is a b c2 d = absurd (b refl)
after_none l x fs kind.Not a b c2 d = refl
after_none l x fs kind.Null a b c2 d = refl
after_none l x fs (kind.Call c) a b c2 d = refl
after_none l x fs kind.Open a b c2 d = refl
after_none l x fs kind.Close a b c2 d = absurd (c2 refl)
after_none l x fs kind.Comma a b c2 d = absurd (d refl)
after_none l x fs kind.Other a b c2 d = refl

pub parted_none : (g : Frame) (x : Expr) (fs : List Frame) → ((h : Function) → g ≢ f.First h) → ((a : Expr) → g ≢ f.IfSecond a) → parted_by g x fs ≡ None
parted_none (f.First h) x fs a b = absurd (a h refl)
parted_none (f.IfSecond t) x fs a b = absurd (b t refl)
parted_none (f.Left o t) x fs a b = refl
parted_none f.Not x fs a b = refl
parted_none f.Negated x fs a b = refl
parted_none f.Parens x fs a b = refl
parted_none (f.CoalesceSecond t) x fs a b = refl
parted_none (f.IfThird t u) x fs a b = refl
