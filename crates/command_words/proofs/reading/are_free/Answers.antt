use Rattle.std.proofs.Common.{◌≡◌, ◌∙◌, ◌<◌, [], get_or, map, length, string_bytes, refl, sym, ap, subst, arith}
use Rattle.std.proofs.lemmas.List.Elements.{All-map}
use Rattle.command_words.specs.Spelling.{IsFree}
use Rattle.command_words.proofs.ReadingLaws.{map_at, map_inside}
use Rattle.command_words.proofs.reading.are_free.Goals as goal

pub returns-then-not-is_free : goal.returns-then-not-is_free
returns-then-not-is_free c = (
  (λ e. absurd cc),
  (λ all.
      let here : c.loop-word.word-index < length c.args.words.now = c.loop-word-test.true in
      let at : get_or (map string_bytes c.args.words.now) c.loop-word.word-index [] ≡ c.as_str.result.now =
      map_at string_bytes c.args.words.now c.loop-word.word-index c.word-item.result [] here ∙ ap string_bytes (sym c.word-item.is) ∙ sym c.as_str.ensures.value in
      let yes = c.is_free.ensures.1 (subst IsFree at (all c.loop-word.word-index [] (map_inside string_bytes c.args.words.now c.loop-word.word-index here))) in
      let no = c.if-not-is_free.true in
      absurd cc),
)

pub returns : goal.returns
returns c = (
  (λ e. All-map (λ w. IsFree w) string_bytes c.args.words.now (λ k d lt.
      let end = c.loop-word.auto.word-index-end in
      let done = c.loop-word-test.false in
      c.loop-word.invariant k d (omega arith))),
  (λ all. refl),
)
