-- The starting variables V_j, and the state that they make: Appendix A and section 3.2 of the source.
use Rattle.std.specs.Prelude.{List, [], ◌∷◌, take}
use Rattle.definition.specs.declared.Block.{Block}
use Rattle.definition.specs.declared.Width.{Width}
use Rattle.definition.specs.Width.{block_count}

-- Appendix A, in its order
unfoldable pub starting_variables : List Block
starting_variables =
    record { a0 = 0x6d251e69; a1 = 0x44b051e0; a2 = 0x4eaa6fb4; a3 = 0xdbf78465; a4 = 0x6e292011; a5 = 0x90152df4; a6 = 0xee058139; a7 = 0xdef610bb }
    ∷ record { a0 = 0xc3b44b95; a1 = 0xd9d2f256; a2 = 0x70eee9a0; a3 = 0xde099fa3; a4 = 0x5d9b0557; a5 = 0x8fc944b3; a6 = 0xcf1ccf0e; a7 = 0x746cd581 }
    ∷ record { a0 = 0xf7efc89d; a1 = 0x5dba5781; a2 = 0x04016ce5; a3 = 0xad659c05; a4 = 0x0306194f; a5 = 0x666d1836; a6 = 0x24aa230a; a7 = 0x8b264ae7 }
    ∷ record { a0 = 0x858075d5; a1 = 0x36d79cce; a2 = 0xe571f7d7; a3 = 0x204b1f67; a4 = 0x35870c6a; a5 = 0x57e9e923; a6 = 0x14bcb808; a7 = 0x7cde72ce }
    ∷ record { a0 = 0x6c68e9be; a1 = 0x5ec41e22; a2 = 0xc825b7c7; a3 = 0xaffb4363; a4 = 0xf5df3999; a5 = 0x0fc688f1; a6 = 0xb07224cc; a7 = 0x03e86cea }
    ∷ []

-- 3.2: H_j^(0) = V_j, the first w blocks
unfoldable pub start : Width → List Block
start w = take (block_count w) starting_variables
