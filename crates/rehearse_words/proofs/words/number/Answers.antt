use Rattle.std.proofs.Common.{◌≡◌, refl, sym, ◌∙◌, arith, rules, true}
use Rattle.std.specs.Char.{is_ascii_digit}
use Rattle.std.specs.List.{list_all}
use Rattle.std.specs.Str.Parse.{digits_value}
use Rattle.std.proofs.lemmas.Str.Parse.{IsNumeralModel, numerals_by_value, digits_value_short, parse_gives}
use lib.Dec.{leb}
use lib.ListN.{length}
use mathlib.Core.Bool.{◌&&◌}
use borrow.Author.Tests.{leb-true}
use Rattle.std.proofs.lemmas.Str.{IsUtf8-from_ascii}
use Rattle.std.proofs.lemmas.Fmt.{IsAscii-from_digits}
use Rattle.rules.proofs.BoolLaws.{both}
use Rattle.rehearse_words.proofs.words.number.Goals as goal

own : IsNumeralModel (λ ds. list_all is_ascii_digit ds ≡ true) (digits_value 10)
own = numerals_by_value _ (search rules)

pub returns-in-Ok : goal.returns-in-Ok
returns-in-Ok c =
    let word = c.args.word.now in
    let yes = sym c.is_number.ensures ∙ c.if-not-is_number.false in
    let q = both (leb 1 (length word) && leb (length word) 9) (list_all is_ascii_digit word) yes in
    let l = both (leb 1 (length word)) (leb (length word) 9) q.0 in
    let small = digits_value_short own word 9 q.1 (leb-true _ _ l.1) in
    let read = rw c.in-Ok.ensures.cases.0 at c.parse.ensures.value.0 in
    rw (c.ok.ensures.value, parse_gives own 32 word c.parse.result read q.1 (leb-true _ _ l.0) (omega (arith, small)), yes) refl

pub returns-in-Err : goal.returns-in-Err
returns-in-Err c =
    let word = c.args.word.now in
    let yes = sym c.is_number.ensures ∙ c.if-not-is_number.false in
    let q = both (leb 1 (length word) && leb (length word) 9) (list_all is_ascii_digit word) yes in
    absurd (c.in-Err.ensures.cases.0 (IsUtf8-from_ascii word (IsAscii-from_digits word (own.to word q.1))))
