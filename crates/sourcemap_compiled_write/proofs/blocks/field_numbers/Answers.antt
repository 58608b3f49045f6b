use Rattle.std.proofs.Common.{◌≡◌, refl, arith}
use Rattle.sourcemap_compiled_write.proofs.BlockLemmas.{field_numbers-scope, field_numbers-token, field_small}
use Rattle.sourcemap_compiled_write.proofs.blocks.field_numbers.Goals as goal

pub returns-in-0 : goal.returns-in-0
returns-in-0 c = record {
  numbers = field_numbers-token c.args.tokens.now c.args.scopes.now c.args.field 0
      c.args.base c.numbers_of.result c.in-0.is refl
      c.requires.base c.numbers_of.ensures.numbers;
  small = λ l. field_small c.args.tokens.now c.args.field 0 c.in-0.is c.numbers_of.ensures.small;
}

pub returns-in-1 : goal.returns-in-1
returns-in-1 c = record {
  numbers = field_numbers-token c.args.tokens.now c.args.scopes.now c.args.field 1
      c.args.base c.numbers_of-in-1.result c.in-1.is refl
      c.requires.base c.numbers_of-in-1.ensures.numbers;
  small = λ l. field_small c.args.tokens.now c.args.field 1 c.in-1.is c.numbers_of-in-1.ensures.small;
}

pub returns-in-2 : goal.returns-in-2
returns-in-2 c = record {
  numbers = field_numbers-token c.args.tokens.now c.args.scopes.now c.args.field 2
      c.args.base c.numbers_of-in-2.result c.in-2.is refl
      c.requires.base c.numbers_of-in-2.ensures.numbers;
  small = λ l. field_small c.args.tokens.now c.args.field 2 c.in-2.is c.numbers_of-in-2.ensures.small;
}

pub returns-in-3 : goal.returns-in-3
returns-in-3 c = record {
  numbers = field_numbers-token c.args.tokens.now c.args.scopes.now c.args.field 3
      c.args.base c.numbers_of-in-3.result c.in-3.is refl
      c.requires.base c.numbers_of-in-3.ensures.numbers;
  small = λ l. field_small c.args.tokens.now c.args.field 3 c.in-3.is c.numbers_of-in-3.ensures.small;
}

pub returns-in-4 : goal.returns-in-4
returns-in-4 c = record {
  numbers = field_numbers-token c.args.tokens.now c.args.scopes.now c.args.field 4
      c.args.base c.numbers_of-in-4.result c.in-4.is refl
      c.requires.base c.numbers_of-in-4.ensures.numbers;
  small = λ l. field_small c.args.tokens.now c.args.field 4 c.in-4.is c.numbers_of-in-4.ensures.small;
}

pub returns-in-5 : goal.returns-in-5
returns-in-5 c = record {
  numbers = field_numbers-token c.args.tokens.now c.args.scopes.now c.args.field 5
      c.args.base c.numbers_of-in-5.result c.in-5.is refl
      c.requires.base c.numbers_of-in-5.ensures.numbers;
  small = λ l. field_small c.args.tokens.now c.args.field 5 c.in-5.is c.numbers_of-in-5.ensures.small;
}

pub returns-in-6 : goal.returns-in-6
returns-in-6 c = record {
  numbers = field_numbers-token c.args.tokens.now c.args.scopes.now c.args.field 6
      c.args.base c.numbers_of-in-6.result c.in-6.is refl
      c.requires.base c.numbers_of-in-6.ensures.numbers;
  small = λ l. field_small c.args.tokens.now c.args.field 6 c.in-6.is c.numbers_of-in-6.ensures.small;
}

pub returns-in_default : goal.returns-in_default
returns-in_default c =
    let last : c.args.field ≡ 7 = omega arith in
    record {
      numbers = field_numbers-scope c.args.tokens.now c.args.scopes.now c.args.field c.scope_numbers.result last
          c.scope_numbers.ensures;
      small = λ l. absurd (omega arith);
    }
