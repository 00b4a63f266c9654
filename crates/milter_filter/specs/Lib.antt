pub mod Cores
pub mod ServedConnections
pub mod ServedPieces
pub mod Connections
