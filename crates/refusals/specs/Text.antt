-- What a refusal is printed as, in ASCII: `refused by row `, and the number of the row in tens.
use Rattle.std.specs.Prelude.{List, [], ◌∷◌, ◌++◌, ℕ}
use Rattle.std.specs.Fmt.{decimal}
use Rattle.refusals.specs.declared.Refusal.{Refusal}
use Rattle.refusals.specs.Rows.{number_of}

-- `refused by row `
abbrev pub refused_by_row : List ℕ
refused_by_row = 114 ∷ 101 ∷ 102 ∷ 117 ∷ 115 ∷ 101 ∷ 100 ∷ 32 ∷ 98 ∷ 121 ∷ 32 ∷ 114 ∷ 111 ∷ 119 ∷ 32 ∷ []

abbrev pub text_of : Refusal → List ℕ
text_of r = refused_by_row ++ decimal (number_of r)
