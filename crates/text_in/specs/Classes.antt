-- Which bytes each class of the code has. This project's own.
use Rattle.std.specs.Prelude.{ℕ, Bool}
use Rattle.text_in.specs.declared.class.Class.{Class}
use Rattle.text_in.specs.declared.class.Class.TheVariants as classes
use Rattle.text_in.specs.Bytes.{is_line_feed, is_number_sign, is_blank, is_solid, is_no_space, is_gap, is_no_gap, is_star, is_comma, is_open, ends_name}

-- the byte is one of the class
abbrev pub is_of : Class → ℕ → Bool
is_of classes.LineFeed b = is_line_feed b
is_of classes.NumberSign b = is_number_sign b
is_of classes.Blank b = is_blank b
is_of classes.Solid b = is_solid b
is_of classes.NoSpace b = is_no_space b
is_of classes.Gap b = is_gap b
is_of classes.NoGap b = is_no_gap b
is_of classes.Star b = is_star b
is_of classes.Comma b = is_comma b
is_of classes.Open b = is_open b
is_of classes.EndsName b = ends_name b
