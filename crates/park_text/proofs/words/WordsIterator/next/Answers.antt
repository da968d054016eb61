-- The first word ends at the first newline, or at the text's end. Assumes nothing.
use Rattle.arithmetic.proofs.Kit.{◌≡◌, ap, arith, rules, ◌∷◌, ◌+◌, ◌-◌, [], length, take, drop}
use Rattle.std.proofs.lemmas.Iterator.{YieldsList-from_slice}
use Rattle.std.proofs.lemmas.Iterator.Search.{position_from_yields_List}
use borrow.Author.Tests.{tests}
use lib.Dec.{eqb}
use Rattle.pages.proofs.Sought.{at_some, at_none}
use Rattle.park_text.specs.Words.{arguments}
use Rattle.park_text.proofs.Split.{no_words, first_word, last_word}
use Rattle.park_text.proofs.words.WordsIterator.next.Goals.{In-Some, In-None}
use Rattle.park_text.proofs.words.WordsIterator.next.Goals as goal

pub returns-then-is_empty-clause-steps : goal.returns-then-is_empty-clause-steps
returns-then-is_empty-clause-steps c = let none = no_words c.args.self.now.rest.now (search rules) in (none, none)

at_newline : (c : In-Some) → let s = c.args.self.now.rest.now in let end = c.in-Some.end in
    arguments s ≡ take end s ∷ arguments (take (length s - (end + 1)) (drop (end + 1) s))
at_newline c =
    let s = c.args.self.now.rest.now in
    let sought = position_from_yields_List (λ b. eqb b 10) _ _ c.position.result c.position.ensures.ran (YieldsList-from_slice s cc) (λ x b q k. search (rules, tests)) in
    first_word s (search rules) (at_some 10 s sought c.in-Some.is)

at_end : (c : In-None) → let s = c.args.self.now.rest.now in arguments s ≡ s ∷ arguments []
at_end c =
    let s = c.args.self.now.rest.now in
    let sought = position_from_yields_List (λ b. eqb b 10) _ _ c.position.result c.position.ensures.ran (YieldsList-from_slice s cc) (λ x b q k. search (rules, tests)) in
    last_word s (search rules) (at_none 10 s sought c.in-None.is)

pub returns-in-Some-clause-steps : goal.returns-in-Some-clause-steps
returns-in-Some-clause-steps c = at_newline (goal.at.returns-in-Some-clause-steps c).In-Some

pub returns-in-Some-clause-goes : goal.returns-in-Some-clause-goes
returns-in-Some-clause-goes c = record { on = λ _. (tt, tt, omega (arith, ap length (at_newline (goal.at.returns-in-Some-clause-goes c).In-Some))); keeps = tt; rests = λ _. tt }

pub returns-in-None-clause-steps : goal.returns-in-None-clause-steps
returns-in-None-clause-steps c = at_end (goal.at.returns-in-None-clause-steps c).In-None

pub returns-in-None-clause-goes : goal.returns-in-None-clause-goes
returns-in-None-clause-goes c = record { on = λ _. (tt, tt, omega (arith, ap length (at_end (goal.at.returns-in-None-clause-goes c).In-None))); keeps = tt; rests = λ _. tt }
