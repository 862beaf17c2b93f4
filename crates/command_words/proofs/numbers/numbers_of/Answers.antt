use Rattle.std.proofs.Common.{◌≡◌, ◌∙◌, [], ◌∷◌, ◌++◌, Some, None, rules, sym, ap, subst, arith, append_assoc}
use Rattle.std.proofs.lemmas.Str.Pattern.{split_parts}
use Rattle.command_words.specs.Numbers.{IsList, last, more}
use Rattle.command_words.proofs.ListLaws.{cut_list, lone_list, only_split, one_number}
use Rattle.command_words.proofs.numbers.numbers_of.Goals as goal

pub returns-in_default-number_of : goal.returns-in_default-number_of
returns-in_default-number_of c = λ ns h.
    let rest = c.loop-first.rest.now in
    let so_far = c.loop-first.invariant.all ns h in
    let parts = split_parts 44 rest (Some (c.in-Some.first, c.in-Some.behind)) c.in-Some.ensures.cases (omega arith) in
    let cut = cut_list c.args.most rest c.in-Some.first.now c.in-Some.behind.now so_far.0 parts.0 (only_split rest c.in-Some.first c.in-Some.behind c.in-Some.ensures.cases) so_far.2 in
    c.in_default-number_of.ensures cut.0 cut.3

pub loop-first-preserved : goal.loop-first-preserved
loop-first-preserved c =
    let rest = c.loop-first.rest.now in
    let n = c.in-Some-number_of.number in
    let parts = split_parts 44 rest (Some (c.in-Some.first, c.in-Some.behind)) c.in-Some.ensures.cases (omega arith) in
    record {
      text = search rules;
      goes_on = λ ns h. subst (IsList c.args.most c.args.text.now)
          (sym (append_assoc c.loop-first.numbers.items (n ∷ []) ns) ∙ ap (λ l. l ++ ns) (sym c.in_ok-push.ensures.items))
          (c.loop-first.invariant.goes_on (n ∷ ns) (more rest c.in-Some.first.now c.in-Some.behind.now n ns c.in-Some-number_of.ensures h parts.0));
      all = λ ms h.
          let so_far = c.loop-first.invariant.all ms h in
          let cut = cut_list c.args.most rest c.in-Some.first.now c.in-Some.behind.now so_far.0 parts.0 (only_split rest c.in-Some.first c.in-Some.behind c.in-Some.ensures.cases) so_far.2 in
          let same : cut.0 ≡ n = one_number 0 c.args.most c.in-Some.first.now cut.0 n cut.3 c.in-Some-number_of.ensures in (
            cut.1,
            so_far.1 ∙ ap (λ l. c.loop-first.numbers.items ++ l) (cut.2 ∙ ap (λ m. m ∷ cut.1) same) ∙ sym (append_assoc c.loop-first.numbers.items (n ∷ []) cut.1) ∙ ap (λ l. l ++ cut.1) (sym c.in_ok-push.ensures.items),
            cut.4,
          );
    }

pub returns-in_default-number_of-2 : goal.returns-in_default-number_of-2
returns-in_default-number_of-2 c = λ ns h.
    let rest = c.loop-first.rest.now in
    let so_far = c.loop-first.invariant.all ns h in
    let alone = lone_list c.args.most rest so_far.0 (split_parts 44 rest None c.in_default.ensures.cases (omega arith)) so_far.2 in
    c.in_default-number_of-2.ensures alone.0 alone.2

pub returns : goal.returns
returns c =
    let n = c.in-Some-number_of-2.number in
    subst (IsList c.args.most c.args.text.now) (sym c.in_ok-push-2.ensures.items)
    (c.loop-first.invariant.goes_on (n ∷ []) (last c.loop-first.rest.now n c.in-Some-number_of-2.ensures))
