use Rattle.std.proofs.Common.{◌≢◌, ◌-◌, ◌∷◌, ◌∙◌, length, take, drop, sym, ap, arith}
use Rattle.std.proofs.lemmas.Bool.{eqb-true, eqb-false}
use Rattle.apsp_graph.specs.Lines.{words_of}
use Rattle.apsp_graph.proofs.LineLemmas.{no_words, spaces_skipped, word_here, first_byte, rest_is}
use Rattle.apsp_graph.proofs.lines.next_word.Goals as goal

pub returns-then-is_empty : goal.returns-then-is_empty
returns-then-is_empty c =
    let t = c.args.line.now in
    let n = c.spaces.result in
    let r = take (length t - n) (drop n t) in
    spaces_skipped t n c.spaces.ensures.within c.spaces.ensures.before
    ∙ ap words_of (sym (rest_is t n))
    ∙ no_words r (eqb-true (length r) 0 (sym c.is_empty.ensures ∙ c.if-is_empty.true))

pub returns : goal.returns
returns c =
    let t = c.args.line.now in
    let n = c.spaces.result in
    let r = take (length t - n) (drop n t) in
    let e = c.find-end.result in
    let some : length r ≢ 0 = eqb-false (length r) 0 (sym c.is_empty.ensures ∙ c.if-is_empty.false) in
    spaces_skipped t n c.spaces.ensures.within c.spaces.ensures.before
    ∙ ap words_of (sym (rest_is t n))
    ∙ word_here r e (omega arith) (first_byte t n c.spaces.ensures.within some c.spaces.ensures.found) c.find-end.ensures.within c.find-end.ensures.before c.find-end.ensures.found
    ∙ ap (λ l. take e r ∷ words_of l) (sym (rest_is r e))
