use Rattle.std.proofs.Common.{ℕ, List, length, drop, length-drop, refl, sym, ap, ◌∙◌, arith, ◌++◌, map}
use Rattle.sheet.specs.Sheet.{Input}
use Rattle.sheet.specs.declared.sheet.Object.{Object}
use Rattle.sheet.specs.Steps.Objects.{input_of}
use Rattle.sheet.proofs.ObjectLaws.{set_start, libs_more, rest_after, libs_none, total_two, after_length, kept_more, kept_all}
use Rattle.sheet.proofs.sheet.cut.Goals as goal

pub split_at-requires : goal.split_at-requires
split_at-requires c = omega (arith, c.size.ensures, total_two c.args.sheet.now c.requires.0)

pub split_at-requires-2 : goal.split_at-requires-2
split_at-requires-2 c = omega (arith, c.size.ensures, c.size-2.ensures, total_two c.args.sheet.now c.requires.0, c.split_at.ensures.back_len)

pub loop-words-init : goal.loop-words-init
loop-words-init c =
    let a = c.args in
    let two = total_two a.sheet.now c.requires.0 in
    let left = after_length a.sheet.now c.requires.0 in
    let none = ap (λ (os : List Object). length os) c.new-objects.ensures in (
      omega (arith, none, c.push.ensures.len, c.push-2.ensures.len),
      omega (arith, left, none, c.push.ensures.len, c.push-2.ensures.len),
      omega (arith, two, c.size.ensures, c.size-2.ensures, c.split_at.ensures.back_len, c.split_at-2.ensures.back_len),
      rw (c.push-2.ensures.items, c.push.ensures.items, c.new-objects.ensures)
          (set_start a.sheet.now a.bytes.now _ _ _ _ _ _ c.requires.0 c.size.ensures.0 c.size-2.ensures.0 c.split_at.ensures.front
          c.split_at.ensures.back c.split_at-2.ensures.front c.split_at-2.ensures.back),
    )

pub loop-words-preserved : goal.loop-words-preserved
loop-words-preserved c =
    let l = c.loop-words in
    let f = c.size-f.result in
    let n = c.size-n.result in
    let two = total_two l.words.now c.in-len2-up.len_at_least in
    let left = after_length l.words.now c.in-len2-up.len_at_least in
    let rest = rest_after l.rest.now f n c.part_of-rest.ensures in
    let more = libs_more l.words.now l.rest.now _ (drop f l.rest.now) _ _ f n c.in-len2-up.len_at_least c.size-f.ensures.0 c.size-n.ensures.0
    c.part_of.ensures refl c.part_of-in-len2-up.ensures rest in (
      omega (arith, l.invariant.0, c.push-in-len2-up.ensures.len),
      omega (arith, left, l.invariant.1, c.push-in-len2-up.ensures.len),
      omega (arith, two, l.invariant.2, c.size-f.ensures, c.size-n.ensures, ap (λ (xs : List ℕ). length xs) rest, length-drop n (drop f l.rest.now), length-drop f l.rest.now),
      rw c.push-in-len2-up.ensures.items (kept_more l.objects.items _ _)
          ∙ ap (λ (r : List Input). map input_of l.objects.items ++ r) (sym more) ∙ l.invariant.3,
    )

pub returns-clause-is : goal.returns-clause-is
returns-clause-is c =
    let l = c.loop-words in
    kept_all _ _ _ (libs_none l.words.now l.rest.now c.in_default.len_below) l.invariant.3
