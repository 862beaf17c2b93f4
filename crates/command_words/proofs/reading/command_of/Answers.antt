use Rattle.std.proofs.Common.{◌∙◌, ◌∷◌, Some, map, string_bytes, sym, ap, subst}
use Rattle.std.proofs.lemmas.Result.{IfOk-weaker}
use Rattle.command_words.specs.Given.{seen}
use Rattle.command_words.specs.Reading.{Reads}
use Rattle.command_words.proofs.ReadingLaws.{behind, cut_word}
use Rattle.command_words.proofs.MeaningLaws.{all_free, built_meaning, none_reserved, rest_free}
use Rattle.command_words.proofs.reading.command_of.Goals as goal

pub returns-then-not-are_free : goal.returns-then-not-are_free
returns-then-not-are_free c = λ command s.
    let yes = c.are_free.ensures.1 (all_free (map string_bytes c.args.words.now) command s) in
    let no = c.if-not-are_free.true in
    absurd cc

pub read-requires : goal.read-requires
read-requires c =
    let rest = map string_bytes (behind c.args.words.now) in
    let first = cut_word string_bytes c.args.words.now c.first-item.result c.in-len1-up.len_at_least c.first-item.is in
    rest_free (map string_bytes c.args.words.now) rest _ first (c.are_free.ensures.0 c.if-not-are_free.false)

pub returns-in-Some-2 : goal.returns-in-Some-2
returns-in-Some-2 c =
    let rest = map string_bytes (behind c.args.words.now) in
    let first = cut_word string_bytes c.args.words.now c.first-item.result c.in-len1-up.len_at_least c.first-item.is
    ∙ ap (λ w. w ∷ rest) (sym c.as_str.ensures.value ∙ c.in-Some.ensures) in
    let spelled : Reads c.in-Some.kind rest (Some c.in-Some-2.given) = subst (Reads c.in-Some.kind rest) c.in-Some-2.is c.in_ok-given.ensures in
    IfOk-weaker c.built.result _ _ (λ found h. built_meaning (map string_bytes c.args.words.now) rest c.in-Some.kind (seen c.in-Some-2.given) found
    (none_reserved (map string_bytes c.args.words.now) (c.are_free.ensures.0 c.if-not-are_free.false)) first spelled h) c.built.ensures
