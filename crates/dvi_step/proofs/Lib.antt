mod Postambles
mod Steps
