pub mod Operands
pub mod OperandParsers
pub mod Loops
pub mod Chains
pub mod ChainParsers
pub mod Expressions
pub mod ExpressionParsers
